-- The printed line of a question, as bytes; the printer ends it by a byte 10.
use Rattle.std.specs.Prelude.{ℕ, zero, suc, ◌+◌, ◌/◌, ◌%◌, true, false, ◌||◌, List, [], ◌∷◌, ◌++◌, map, length, take, ◌==◌, nat_lt, slice_index_or}
use Prim.Native.Char.{code}
use Prim.Native.String.{String}
use Rattle.snapshot.specs.Limits.{area_limit}
use Rattle.snapshot.specs.Records.{Snapshot}
use Rattle.keywords.specs.Keywords.{is_raw}
use Rattle.check_rules.specs.Verdict.{Verdict, refuse, accept, verdict, empty}
use Rattle.hir_def.specs.Items.{crate_of, crate_data}
use Rattle.find_path_spec.specs.declared.Question.{Question}
use Rattle.find_path_spec.specs.declared.Report.{Report}
use Rattle.find_path_choice.specs.Choices.{self_path, super_path, crate_path, absolute_path, name_data}
use Rattle.find_path_spec.specs.Report.{report_of}

-- the bytes of a text of ASCII characters
abbrev pub bytes_of : String → List ℕ
bytes_of String.[] = []
bytes_of (String.◌∷◌ c t) = code c ∷ bytes_of t

-- the bytes that words hold, three a word, the first lowest
unfoldable pub unpacked : List ℕ → List ℕ
unpacked [] = []
unpacked (w ∷ ws) = w % 256 ∷ w / 256 % 256 ∷ w / 65536 % 256 ∷ unpacked ws

unfoldable pub text_of : Snapshot → ℕ → List ℕ
text_of s n = take (name_data s n).bytes (unpacked (name_data s n).text)

-- the edition of a module's crate; 0 where there is no such module
unfoldable pub edition_in : Snapshot → ℕ → ℕ
edition_in s m = elim (nat_lt m (length s.modules)) [ true ↦ (crate_data s (crate_of s m)).edition | false ↦ 0 ]

-- the text of a name as an edition writes it
unfoldable pub written_of : Snapshot → ℕ → ℕ → List ℕ
written_of s e n = elim (is_raw e (name_data s n)) [ true ↦ bytes_of "r#" ++ text_of s n | false ↦ text_of s n ]

-- a number in decimal; d + 1 digits are enough
unfoldable pub decimal_to : ℕ → ℕ → List ℕ
decimal_to zero n = (48 + n % 10) ∷ []
decimal_to (suc d) n = elim (nat_lt n 10) [ true ↦ (48 + n) ∷ [] | false ↦ decimal_to d (n / 10) ++ ((48 + n % 10) ∷ []) ]

unfoldable pub decimal : ℕ → List ℕ
decimal n = decimal_to n n

-- the parts with a joint between them
unfoldable pub joined : List ℕ → List (List ℕ) → List ℕ
joined joint [] = []
joined joint (p ∷ []) = p
joined joint (p ∷ q ∷ ps) = p ++ (joint ++ joined joint (q ∷ ps))

-- what stands before the names: `self`, `super`, `crate`, or for a leading `::` an empty part
unfoldable pub prefix_parts : ℕ → List (List ℕ)
prefix_parts k =
    elim (k == self_path) [
      | true ↦ bytes_of "self" ∷ []
      | false ↦ elim (k == super_path) [
        | true ↦ bytes_of "super" ∷ []
        | false ↦ elim (k == crate_path) [
          | true ↦ bytes_of "crate" ∷ []
          | false ↦ elim (k == absolute_path) [ true ↦ [] ∷ [] | false ↦ [] ]
        ]
      ]
    ]

unfoldable pub path_text : Snapshot → ℕ → Report → List ℕ
path_text s e r = joined (bytes_of "::") (prefix_parts r.kind ++ map (written_of s e) (take r.count r.names))

-- outcome and path: `-` for none, the number for refused
unfoldable pub line_parts : Snapshot → ℕ → Report → List (List ℕ)
line_parts s e r =
    elim (r.outcome == 0) [
      | true ↦ bytes_of "found" ∷ path_text s e r ∷ []
      | false ↦ elim (r.outcome == 1) [
        | true ↦ bytes_of "none" ∷ bytes_of "-" ∷ []
        | false ↦ elim (r.outcome == 3) [
          | true ↦ bytes_of "misleads" ∷ path_text s e r ∷ []
          | false ↦ bytes_of "refused" ∷ decimal r.number ∷ []
        ]
      ]
    ]

-- as it is written in a module
unfoldable pub line_in : Snapshot → ℕ → Report → List ℕ
line_in s from r = joined (bytes_of " ") (line_parts s (edition_in s from) r ++ (decimal r.charges ∷ decimal r.empty ∷ []))

-- the names of the rules, by their numbers
abbrev pub rule_names : List (List ℕ)
rule_names =
    bytes_of "builtin" ∷ bytes_of "scope" ∷ bytes_of "prelude" ∷ bytes_of "extern" ∷ bytes_of "keyword" ∷ bytes_of "variant" ∷ bytes_of "local"
    ∷ bytes_of "import" ∷ []

-- a step: the rule, and the offset of the record's head
unfoldable pub step_text : ℕ → List ℕ
step_text t = slice_index_or rule_names (t % 8) [] ++ (bytes_of "@" ++ decimal (t / 8))

-- each after a space
unfoldable pub steps_text : List ℕ → List ℕ
steps_text [] = []
steps_text (t ∷ ts) = bytes_of " " ++ (step_text t ++ steps_text ts)

-- the steps of a path that is found, misleading or not
unfoldable pub route_text : Report → List ℕ
route_text r = elim (r.outcome == 0 || r.outcome == 3) [ true ↦ steps_text (take r.steps r.route) | false ↦ [] ]

-- the line with the route
unfoldable pub routed_line_in : Snapshot → ℕ → Report → List ℕ
routed_line_in s from r = line_in s from r ++ route_text r

-- the snapshot whose names are printed; a refused one has none
unfoldable pub snapshot_of : Verdict → Snapshot
snapshot_of (refuse n place) = empty
snapshot_of (accept s) = s

-- the line of a question on the words of a snapshot, with a work area that serves
unfoldable pub line_of : List ℕ → Question → List ℕ
line_of words q = line_in (snapshot_of (verdict words)) q.query.from.0 (report_of words area_limit q)

-- the same with its route
unfoldable pub routed_line_of : List ℕ → Question → List ℕ
routed_line_of words q = routed_line_in (snapshot_of (verdict words)) q.query.from.0 (report_of words area_limit q)
