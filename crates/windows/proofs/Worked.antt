-- Runs on the worked snapshot, from the empty state on: whom the turns serve, in which order, and with which reports.
use Prim.Native.Nat.{ℕ}
use mathlib.Core.Path.{◌≡◌, refl}
use mathlib.Core.Bool.{Bool, true}
use mathlib.Core.List.{List, [], ◌∷◌, ◌++◌}
use lib.Dec.{eqb}
use lib.ListN.{replicate}
use Rattle.snapshot.specs.Lists.{all, eq_list}
use Rattle.check_rules.specs.Worked.{worked}
use Rattle.find_path_spec.specs.declared.Question.{Question}
use Rattle.find_path_spec.specs.Report.{flag}
use Rattle.find_path_spec.proofs.Worked.{passes}
use Rattle.reports.specs.Written.{report_words}
use Rattle.windows.specs.rules.States.{with_row, waits, asked_by, waiting, place_fault, placed_unless, after_place, first_from, served, after_serving}
use Rattle.windows.specs.rules.States.{after_turn}
use Rattle.windows.specs.Windows.{Turn, idle_turn, serving_turn, turn_of}
use Rattle.windows.specs.Runs.{empty_state, Operation, placing, turning, after_one, after_run}

-- a turn as words: idle 0 or 1, the window, the report
turn_words : Turn → List ℕ
unfolding flag
turn_words t = flag t.idle ∷ t.window ∷ report_words t.report

-- the words of a run's turns, in order
told : List ℕ → List Operation → List ℕ
told S [] = []
told S (placing w q ∷ os) = told (after_place S w q) os
told S (turning ∷ os) = turn_words (turn_of S worked 16384) ++ told (after_turn S) os

pub record Row : Type 0 where
  pub operations : List Operation
  pub turns : List ℕ

-- the turns are those of the definitions; `passes` unfolds the search
pub passes_all : List Row → Bool
unfolding passes turn_words told report_words with_row waits asked_by waiting place_fault placed_unless after_place first_from served
    after_serving after_turn idle_turn serving_turn turn_of empty_state
passes_all table = all (λ r. eq_list (told empty_state r.operations) r.turns) table

-- the function `f` from the root, with a fuel
abbrev asked : ℕ → Question
asked fuel = record {
  query = record { ns = 1; definition = record { 0 = 1 }; from = record { 0 = 0 }; prefix = 1; options = 0; limit = 15 };
  fuel = fuel;
}

-- `found a::f 1 0 scope@21 local@29` of a window, `refused 21 0 0` of a window, and an idle turn
abbrev found : ℕ → List ℕ
found w = 0 ∷ w ∷ 0 ∷ 0 ∷ 0 ∷ 0 ∷ 1 ∷ replicate 14 0 ++ (2 ∷ 1 ∷ 0 ∷ 0 ∷ 0 ∷ 2 ∷ 169 ∷ 238 ∷ replicate 15 0)

abbrev refused : ℕ → List ℕ
refused w = 0 ∷ w ∷ 2 ∷ 21 ∷ replicate 40 0

abbrev idle : List ℕ
idle = 1 ∷ 8 ∷ 2 ∷ replicate 41 0

abbrev row : List Operation → List ℕ → Row
row os t = record { operations = os; turns = t }

pub cases : List Row
cases =
    row (turning ∷ []) idle
    -- the first turn counts from window 0
    ∷ row (placing 5 (asked 1) ∷ placing 2 (asked 10001) ∷ turning ∷ turning ∷ turning ∷ []) (refused 2 ++ (found 5 ++ idle))
    -- the next one from the window after that served last, and round
    ∷ row (placing 5 (asked 1) ∷ turning ∷ placing 2 (asked 1) ∷ placing 6 (asked 10001) ∷ placing 5 (asked 1) ∷ turning ∷ turning ∷ turning ∷ [])
    (found 5 ++ (refused 6 ++ (found 2 ++ found 5)))
    -- a window that waits keeps its question, and there is no window 8
    ∷ row (placing 7 (asked 1) ∷ placing 7 (asked 10001) ∷ placing 8 (asked 1) ∷ turning ∷ turning ∷ []) (found 7 ++ idle)
    ∷ []

pub worked_windows : passes_all cases ≡ true
unfolding passes_all cases
worked_windows = refl

-- the numbers of questions placed after a run
pub record Placing : Type 0 where
  pub operations : List Operation
  pub window : ℕ
  pub number : ℕ

pub numbers_pass : List Placing → Bool
unfolding all with_row waits waiting place_fault placed_unless after_place first_from served after_serving after_turn empty_state after_one after_run
numbers_pass table = all (λ r. eqb (place_fault (after_run empty_state r.operations) r.window) r.number) table

abbrev put : List Operation → ℕ → ℕ → Placing
put os w n = record { operations = os; window = w; number = n }

pub placings : List Placing
placings =
    put [] 7 0
    ∷ put [] 8 49
    ∷ put (placing 7 (asked 1) ∷ []) 7 50
    ∷ put (placing 7 (asked 1) ∷ []) 6 0
    ∷ put (placing 7 (asked 1) ∷ turning ∷ []) 7 0
    ∷ []

pub worked_numbers : numbers_pass placings ≡ true
unfolding numbers_pass placings
worked_numbers = refl
