-- The text that is printed of a verdict.
use Rattle.std.specs.Prelude.{ℕ, ◌+◌, ◌*◌, ◌/◌, Bool, true, false, ◌&&◌, ◌||◌, List, ◌++◌, eqb, ltb, length, get_or}
use Rattle.snapshot.specs.Refusals.{form_refusal}
use Rattle.check_rules.specs.Verdict.{Verdict, refuse, accept}
use Rattle.printing.specs.Output.{bytes_of}
use Rattle.printing.specs.wording.Text.{refusal, asked_there, line, first_lines, last_lines}

-- the kinds that are no record's but a question's: 12, 14 and 15
abbrev pub asks : ℕ → Bool
asks kind = eqb kind 12 || ltb 13 kind

-- the kind of the word at a place is one of them: it is the upper half of the word's last byte
unfoldable pub asks_at : List ℕ → ℕ → Bool
asks_at B at = elim (ltb at (length B / 4)) [ true ↦ asks (get_or B (4 * at + 3) 0 / 16) | false ↦ false ]

-- a refusal, which says where a question begins at its place
unfoldable pub refused_text : List ℕ → ℕ → ℕ → List ℕ
refused_text B n at = elim (eqb n form_refusal && asks_at B at) [ true ↦ asked_there at | false ↦ refusal n at ]

-- the refusal of these bytes, or how many records of each kind there are
abbrev pub text_of : List ℕ → Verdict → List ℕ
text_of B (refuse n at) = refused_text B n at
text_of B (accept s) =
    bytes_of "accepted\n"
    ++ (first_lines (length s.names) (length s.crates) (length s.dependencies) (length s.maps) (length s.modules)
    ++ (last_lines (length s.children) (length s.preludes) (length s.definitions) (length s.scopes) (length s.imports)
    (length s.externs)
    ++ line "members " (length s.members)))
