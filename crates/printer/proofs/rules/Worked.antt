-- Where the questions of an input begin and end, and how many lines there are: computed.
use Prim.Native.Nat.{ℕ}
use mathlib.Core.Path.{◌≡◌, refl}
use mathlib.Core.List.{List, [], ◌∷◌, map}
use mathlib.Core.Bool.{true, false}
use lib.ListN.{length, replicate}
use Rattle.printer.specs.rules.Printed.{first_from, questions_at, whole_at, reach_at, next_at, lines_from, input_fault, lines_of}

-- a head of kind 12, 14 or 15, and its arguments
pub path : List ℕ
path = 0xC0000001 ∷ replicate 6 1

pub route : List ℕ
route = 0xE0000001 ∷ replicate 6 1

pub reach : List ℕ
reach = 0xF0000001 ∷ replicate 4 1

-- each of the three begins the questions
pub begins : map (λ W. questions_at (0x20000000 ∷ 2021 ∷ W)) (path ∷ route ∷ reach ∷ []) ≡ 2 ∷ 2 ∷ 2 ∷ []
unfolding questions_at first_from path route reach
begins = refl

-- whole with six arguments, and with five not; four for a reach
pub whole : map (λ W. whole_at W 0) (path ∷ route ∷ (0xC0000001 ∷ replicate 5 1) ∷ []) ≡ true ∷ true ∷ false ∷ []
unfolding whole_at path route
whole = refl

pub whole_reach : map (λ W. reach_at W 0) (reach ∷ (0xF0000001 ∷ replicate 3 1) ∷ []) ≡ true ∷ false ∷ []
unfolding reach_at reach
whole_reach = refl

-- the place after it; after what is not whole, the end
pub next : map (λ W. next_at W 0) (path ∷ reach ∷ (0xF0000001 ∷ 1 ∷ 1 ∷ []) ∷ []) ≡ 7 ∷ 5 ∷ 3 ∷ []
unfolding next_at whole_at reach_at path reach
next = refl

-- a line for each, the first one's too
pub lines : map (λ W. length (lines_of W)) ([] ∷ path ∷ (0xF0000001 ∷ 1 ∷ 1 ∷ []) ∷ []) ≡ 0 ∷ 1 ∷ 1 ∷ []
unfolding lines_of lines_from next_at whole_at reach_at questions_at first_from path
lines = refl

-- 40 for one byte too many, then 41 for a rest
pub faults : map input_fault (replicate 65537 0 ∷ replicate 65536 0 ∷ replicate 5 0 ∷ []) ≡ 40 ∷ 0 ∷ 41 ∷ []
unfolding input_fault
faults = refl
