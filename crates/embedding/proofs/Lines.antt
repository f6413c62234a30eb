-- The printed line of a question stays when the question is put with its numbers moved.
use Prim.Native.Nat.{ℕ, zero, suc, ◌<◌}
use mathlib.Core.Path.{◌≡◌, refl, sym, ◌∙◌, ap, ap₂}
use mathlib.Core.List.{List, [], ◌∷◌, ◌++◌, map}
use mathlib.Core.Bool.{true, false, ◌&&◌, ◌||◌, not}
use native.Mathlib.Omega.{arith}
use borrow.Author.Tests.{ltb-true, ltb-false, lt-ltb}
use lib.Dec.{eqb, ltb}
use lib.ListN.{length, take, get_or-eq_default}
use Rattle.snapshot.specs.Refusals.{unknown_refusal, macro_refusal}
use Rattle.snapshot.specs.Records.{Snapshot, Name, Crate, Definition}
use Rattle.keywords.specs.Keywords.{is_raw}
use Rattle.check_rules.specs.Tests.{no_definition}
use Rattle.accept.specs.Valid.{Valid}
use Rattle.accept.proofs.Accepted.{by_test}
use Rattle.hir_def.specs.Items.{macros, macro_kind, definition_of}
use Rattle.read_back.specs.readings.Reads.{reads_back}
use Rattle.find_path_choice.specs.Choices.{Choice}
use Rattle.find_path_spec.specs.declared.Query.{Query}
use Rattle.find_path_spec.specs.declared.Report.{Report}
use Rattle.find_path_spec.specs.declared.Tank.{Tank}
use Rattle.find_path_spec.specs.Rules.{bit}
use Rattle.find_path_spec.specs.Charged.{Out}
use Rattle.find_path_spec.specs.Report.{question_fault, refused, flag, misleads, outcome_by, reported, answer_unless}
use Rattle.find_path_spec.specs.Line.{bytes_of, unpacked, text_of, edition_in, written_of, decimal, joined, prefix_parts, path_text, line_parts}
use Rattle.find_path_spec.specs.Line.{line_in}
use Rattle.join_rules.specs.Joined.{Numbers}
use Rattle.embedding.specs.Embeds.{Embeds, item_to}
use Rattle.embedding.proofs.Lookups.{Along, end, next, kind_moved, fits}
use Rattle.embedding.proofs.Choices.{Named, Alike, name_moved}
use Rattle.embedding.proofs.Charged.{OutAlike}
use Rattle.embedding.proofs.Questions.{query_to, TankAlike, crate_data_moved, asked, asked_moved, asked_has, builtin_type_moved, searched_alike}
use Rattle.embedding.proofs.Reading.{reads_back_moved}

-- reports that print alike
record ReportAlike (e : Numbers) (s : Snapshot) (r r' : Report) : Type 0 where
  outcome : r'.outcome ≡ r.outcome
  number : r'.number ≡ r.number
  kind : r'.kind ≡ r.kind
  count : r'.count ≡ r.count
  charges : r'.charges ≡ r.charges
  empty : r'.empty ≡ r.empty
  names : Along (Named e s) (take r.count r.names) (take r.count r'.names)

refused_alike : (e : Numbers) (s : Snapshot) (k : ℕ) → ReportAlike e s (refused k) (refused k)
unfolding refused
refused_alike e s k = record { outcome = refl; number = refl; kind = refl; count = refl; charges = refl; empty = refl; names = end }

module _ (e : Numbers) (s u : Snapshot) (em : Embeds e s u) (v : Valid s) (w : Valid u) where
  abbrev n : ℕ
  n = length s.modules

  -- the text of a name
  written_moved : (ed k : ℕ) → k < length s.names → written_of u ed (e.names k) ≡ written_of s ed k
  unfolding written_of text_of
  written_moved ed k l =
      ap (λ (x : Name). elim (is_raw ed x) [
        | true ↦ bytes_of "r#" ++ take x.bytes (unpacked x.text)
        | false ↦ take x.bytes
            (unpacked x.text)
      ])
      (name_moved e s u em k l)

  written_along : (ed : ℕ) {ks js : List ℕ} → Along (Named e s) ks js → map (written_of u ed) js ≡ map (written_of s ed) ks
  written_along ed end = refl
  written_along ed (next {x = k} h t) = ap₂ (λ a b. a ∷ b) (ap (written_of u ed) h.1 ∙ written_moved ed k h.0) (written_along ed t)

  path_text_moved : (ed : ℕ) {r r' : Report} → ReportAlike e s r r' → path_text u ed r' ≡ path_text s ed r
  unfolding path_text
  path_text_moved ed {r} {r'} a =
      let t = ap (λ c. map (written_of u ed) (take c r'.names)) a.count ∙ written_along ed a.names in
      λ i. joined (bytes_of "::") (prefix_parts (a.kind i) ++ t i)

  line_parts_moved : (ed : ℕ) {r r' : Report} → ReportAlike e s r r' → line_parts u ed r' ≡ line_parts s ed r
  unfolding line_parts
  line_parts_moved ed {r} {r'} a =
      let t = path_text_moved ed a in
      let o = a.outcome in
      let m = a.number in
      λ i. elim (eqb (o i) 0) [
        | true ↦ bytes_of "found" ∷ t i ∷ []
        | false ↦ elim (eqb (o i) 1) [
          | true ↦ bytes_of "none" ∷ bytes_of "-" ∷ []
          | false ↦ elim (eqb (o i) 3) [ true ↦ bytes_of "misleads" ∷ t i ∷ [] | false ↦ bytes_of "refused" ∷ decimal (m i) ∷ [] ]
        ]
      ]

  edition_moved : (m : ℕ) → m < n → edition_in u (e.modules m) ≡ edition_in s m
  unfolding edition_in
  edition_moved m l =
      let a = lt-ltb (e.modules m) (length u.modules) (em.module_there m l) ∙ sym (lt-ltb m (length s.modules) l) in
      let c = ap (λ (x : Crate). x.edition) (crate_data_moved e s u em v w m l) in
      λ i. elim (a i) [ true ↦ c i | false ↦ 0 ]

  line_moved : (m : ℕ) → m < n → {r r' : Report} → ReportAlike e s r r' → line_in u (e.modules m) r' ≡ line_in s m r
  unfolding line_in
  line_moved m l {r} {r'} a =
      let p = ap (λ ed. line_parts u ed r') (edition_moved m l) ∙ line_parts_moved (edition_in s m) a in
      λ i. joined (bytes_of " ") (p i ++ (decimal (a.charges i) ∷ decimal (a.empty i) ∷ []))

  -- a definition goes to one that is there
  definition_there : (d : ℕ) → d < length s.definitions → e.definitions d < length u.definitions
  unfolding definition_of
  definition_there d l =
      by_test (ltb (e.definitions d) (length u.definitions))
      (λ a. ltb-true (e.definitions d) (length u.definitions) a)
      (λ a.
      let k = kind_moved e s u em v d l in
      let f = (fits e s u em v d l).known in
      let z = ap (λ (x : Definition). x.kind)
      (get_or-eq_default u.definitions no_definition (ltb-false (e.definitions d) (length u.definitions) a)) in
      absurd (omega arith))

  module _ (q : Query) (lf : q.from.0 < n) (ld : q.definition.0 < length s.definitions) where
    misleads_moved : {c d : Choice} → Alike e s c d → misleads u (query_to e q) d ≡ misleads s q c
    unfolding misleads
    misleads_moved {c} {d} a =
        let b = builtin_type_moved e s u em v w q lf ld in
        let item = asked e s u em v w q lf ld in
        let r = ap (λ k. reads_back u (e.modules q.from.0) k d.kind (take d.count d.names)) (asked_moved e s u em v w q lf ld)
        ∙ ap₂ (λ k c. reads_back u (e.modules q.from.0) (item_to e item) k (take c d.names)) a.kind a.count
        ∙ reads_back_moved e s u em v w q.from.0 lf item (asked_has e s u em v w q lf ld) c.kind a.names in
        λ i. bit q.options 64 && (a.found i && not (b i || r i))

    reported_alike : {o p : Out Tank} → OutAlike e s (TankAlike e) o p → ReportAlike e s (reported s q o) (reported u (query_to e q) p)
    unfolding reported
    reported_alike a =
        record {
          outcome = ap₂ outcome_by (misleads_moved a.choice) a.choice.found;
          number = refl;
          kind = a.choice.kind;
          count = a.choice.count;
          charges = a.meter.spent;
          empty = ap flag a.meter.empty;
          names = a.choice.names;
        }

    fault_moved : question_fault u (query_to e q) ≡ question_fault s q
    unfolding question_fault
    fault_moved =
        let a = lt-ltb (e.definitions q.definition.0) (length u.definitions) (definition_there q.definition.0 ld)
        ∙ sym (lt-ltb q.definition.0 (length s.definitions) ld) in
        let b = lt-ltb (e.modules q.from.0) (length u.modules) (em.module_there q.from.0 lf) ∙ sym (lt-ltb q.from.0 n lf) in
        let k = kind_moved e s u em v q.definition.0 ld in
        λ i. elim (a i && b i) [
          | true ↦ elim (eqb q.ns macros && not (eqb (k i) macro_kind)) [ true ↦ macro_refusal | false ↦ 0 ]
          | false ↦ unknown_refusal
        ]

    answer_alike : (fuel k : ℕ) → ReportAlike e s (answer_unless s q fuel k) (answer_unless u (query_to e q) fuel k)
    unfolding answer_unless
    answer_alike fuel zero = reported_alike (searched_alike e s u em v w q lf ld fuel)
    answer_alike fuel (suc k) = refused_alike e s (suc k)

    -- the line of an answer, or of a refusal
    pub answer_line : (fuel : ℕ)
        → line_in u (e.modules q.from.0) (answer_unless u (query_to e q) fuel (question_fault u (query_to e q)))
        ≡ line_in s q.from.0 (answer_unless s q fuel (question_fault s q))
    answer_line fuel =
        ap (λ k. line_in u (e.modules q.from.0)
        (answer_unless u (query_to e q) fuel k)) fault_moved ∙ line_moved q.from.0 lf (answer_alike fuel (question_fault s q))
