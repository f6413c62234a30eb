-- The outcomes by their numbers.
use Rattle.std.specs.Prelude.{ℕ}
use Rattle.answer.specs.declared.any_answer.report.AnyOutcome.{AnyOutcome}
use Rattle.answer.specs.declared.any_answer.report.AnyOutcome.TheVariants.{Found, Nowhere, Refused, Longer}

-- the number of an outcome
abbrev pub outcome_number : AnyOutcome → ℕ
outcome_number Found = 0
outcome_number Nowhere = 1
outcome_number Refused = 2
outcome_number Longer = 3
