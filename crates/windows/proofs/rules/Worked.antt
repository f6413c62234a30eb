-- Runs from the empty state on, computed: the numbers of questions placed, and the windows served with their questions.
use Prim.Native.Nat.{ℕ}
use mathlib.Core.Path.{◌≡◌, refl}
use mathlib.Core.Bool.{true, false}
use mathlib.Core.List.{List, [], ◌∷◌}
use lib.Dec.{eqb}
use lib.ListN.{length, replicate}
use Rattle.find_path_spec.specs.declared.Question.{Question}
use Rattle.windows.specs.rules.States.{with_row, waits, asked_by, waiting, place_fault, placed_unless, after_place, first_from, served, after_serving}
use Rattle.windows.specs.rules.States.{after_turn}

-- a question that is known by its fuel
pub asked : ℕ → Question
asked fuel = record {
  query = record { ns = 1; definition = record { 0 = 1 }; from = record { 0 = 0 }; prefix = 1; options = 0; limit = 15 };
  fuel = fuel;
}

-- Operations: a question placed in that window, its fuel the number of operations after it; 9 a turn. Of a question its number is told, of a turn the
-- window and the question's fuel.
pub told : List ℕ → List ℕ → List ℕ
told S [] = []
told S (o ∷ os) =
    elim (eqb o 9) [
      | true ↦ served S ∷ (asked_by S (served S)).fuel ∷ told (after_turn S) os
      | false ↦ place_fault S o ∷ told (after_place S o (asked (length os))) os
    ]

pub run : List ℕ → List ℕ
run os = told (replicate 65 0) os

-- the first turn counts from window 0; the third is idle
pub from_the_first : run (5 ∷ 2 ∷ 9 ∷ 9 ∷ 9 ∷ []) ≡ 0 ∷ 0 ∷ 2 ∷ 3 ∷ 5 ∷ 4 ∷ 8 ∷ 0 ∷ []
unfolding run told asked with_row waits asked_by waiting place_fault placed_unless after_place first_from served after_serving after_turn
from_the_first = refl

-- the next one counts from the window after that served last, and round
pub round : run (5 ∷ 9 ∷ 2 ∷ 6 ∷ 5 ∷ 9 ∷ 9 ∷ 9 ∷ []) ≡ 0 ∷ 5 ∷ 7 ∷ 0 ∷ 0 ∷ 0 ∷ 6 ∷ 4 ∷ 2 ∷ 5 ∷ 5 ∷ 3 ∷ []
unfolding run told asked with_row waits asked_by waiting place_fault placed_unless after_place first_from served after_serving after_turn
round = refl

-- a window that waits keeps its question, and there is no window 8
pub placings : run (7 ∷ 7 ∷ 8 ∷ 9 ∷ 9 ∷ []) ≡ 0 ∷ 50 ∷ 49 ∷ 7 ∷ 4 ∷ 8 ∷ 0 ∷ []
unfolding run told asked with_row waits asked_by waiting place_fault placed_unless after_place first_from served after_serving after_turn
placings = refl
