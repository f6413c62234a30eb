-- The verdict on a snapshot's bytes.
use Rattle.std.specs.Prelude.{ℕ, ◌/◌, ◌%◌, List, true, false, eqb, leb, length}
use Rattle.snapshot.specs.Limits.{word_limit, input_limit}
use Rattle.snapshot.specs.Refusals.{bytes_refusal, rest_refusal}
use Rattle.check_rules.specs.Verdict.{Verdict, refuse, verdict}
use Rattle.printing.specs.Input.{words_in}

-- the whole words of the bytes
abbrev pub words_of : List ℕ → List ℕ
words_of B = words_in B (length B / 4)

-- too many bytes, a rest of 1 to 3 bytes, or the verdict on the words
unfoldable pub verdict_of : List ℕ → Verdict
verdict_of B =
    elim (leb (length B) input_limit) [
      | true ↦ elim (eqb (length B % 4) 0) [ true ↦ verdict (words_of B) | false ↦ refuse rest_refusal (length B / 4) ]
      | false ↦ refuse bytes_refusal word_limit
    ]
