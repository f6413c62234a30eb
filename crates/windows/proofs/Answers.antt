-- The runs as one fact: an edit of a definition is told by them first.
use mathlib.Core.Path.{◌≡◌}
use mathlib.Core.List.{[], ◌∷◌}
use Rattle.windows.proofs.rules.Worked.{run, from_the_first, round, placings}

pub record Answers : Type 0 where
  pub from_the_first : run (5 ∷ 2 ∷ 9 ∷ 9 ∷ 9 ∷ []) ≡ 0 ∷ 0 ∷ 2 ∷ 3 ∷ 5 ∷ 4 ∷ 8 ∷ 0 ∷ []
  pub round : run (5 ∷ 9 ∷ 2 ∷ 6 ∷ 5 ∷ 9 ∷ 9 ∷ 9 ∷ []) ≡ 0 ∷ 5 ∷ 7 ∷ 0 ∷ 0 ∷ 0 ∷ 6 ∷ 4 ∷ 2 ∷ 5 ∷ 5 ∷ 3 ∷ []
  pub placings : run (7 ∷ 7 ∷ 8 ∷ 9 ∷ 9 ∷ []) ≡ 0 ∷ 50 ∷ 49 ∷ 7 ∷ 4 ∷ 8 ∷ 0 ∷ []

pub answers_given : Answers
answers_given = record { from_the_first = from_the_first; round = round; placings = placings }
