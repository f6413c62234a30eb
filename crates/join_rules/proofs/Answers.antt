-- The lines on joined words as one fact: an edit of a definition is told by the rows first.
use mathlib.Core.Path.{◌≡◌}
use mathlib.Core.Bool.{true}
use Rattle.find_path_spec.proofs.Worked.{with_dependency, dependency_cases, with_std, std_cases}
use Rattle.join_rules.proofs.Worked.{join_passes, dependency_twice, dependency_std}

pub record Answers : Type 0 where
  pub twice : join_passes with_dependency with_dependency dependency_cases dependency_cases ≡ true
  pub std : join_passes with_dependency with_std dependency_cases std_cases ≡ true

pub answers : Answers
answers = record { twice = dependency_twice; std = dependency_std }
