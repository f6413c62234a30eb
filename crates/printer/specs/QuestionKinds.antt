-- The kinds of questions by their numbers.
use Rattle.std.specs.Prelude.{ℕ, eqb, true, false, Option, Some, None}
use Rattle.printer.specs.declared.questions.QuestionKind.{QuestionKind}
use Rattle.printer.specs.declared.questions.QuestionKind.TheVariants.{Path, Route, Reach}

-- the number of a kind
abbrev pub question_kind_number : QuestionKind → ℕ
question_kind_number Path = 12
question_kind_number Route = 14
question_kind_number Reach = 15

-- the kind with a number
abbrev pub question_kind_of : ℕ → Option QuestionKind
question_kind_of n =
    elim (eqb n 12) [
      | true ↦ Some Path
      | false ↦ elim (eqb n 14) [ true ↦ Some Route | false ↦ elim (eqb n 15) [ true ↦ Some Reach | false ↦ None ] ]
    ]
