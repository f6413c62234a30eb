-- The outcomes by their numbers.
use Rattle.std.specs.Prelude.{ℕ}
use Rattle.find_path_spec.specs.declared.Outcome.{Outcome}
use Rattle.find_path_spec.specs.declared.Outcome.TheVariants.{Found, None, Refused, Misleads}

-- the number of an outcome
abbrev pub outcome_number : Outcome → ℕ
outcome_number Found = 0
outcome_number None = 1
outcome_number Refused = 2
outcome_number Misleads = 3
