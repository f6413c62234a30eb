-- Runs of the windows: questions placed, and turns.
use Rattle.std.specs.Prelude.{ℕ, suc, ◌<◌, ◌≡◌, List, [], ◌∷◌, ◌++◌, get_or, take, replicate}
use Rattle.find_path_spec.specs.declared.Question.{Question}
use Rattle.windows.specs.rules.States.{row_of, asked_by, after_place, served, after_turn}

-- no question waits, and the first turn counts from window 0
unfoldable pub empty_state : List ℕ
empty_state = replicate 65 0

pub data Operation : Type 0 where
  placing : ℕ → Question → Operation
  turning : Operation

-- the state after an operation
unfoldable pub after_one : List ℕ → Operation → List ℕ
after_one S (placing w q) = after_place S w q
after_one S turning = after_turn S

-- the state after a run of operations
unfoldable pub after_run : List ℕ → List Operation → List ℕ
after_run S [] = S
after_run S (o ∷ os) = after_run (after_one S o) os

-- how many turns a run has
unfoldable pub turns : List Operation → ℕ
turns [] = 0
turns (placing w q ∷ os) = turns os
turns (turning ∷ os) = suc (turns os)

-- a window, 8 for none, and its question
pub record Serving : Type 0 where
  pub window : ℕ
  pub question : Question

-- what a turn serves
unfoldable pub serving_in : List ℕ → Serving
serving_in S = record { window = served S; question = asked_by S (served S) }

-- what the turns of a run serve, in order
unfoldable pub servings : List ℕ → List Operation → List Serving
servings S [] = []
servings S (placing w q ∷ os) = servings (after_place S w q) os
servings S (turning ∷ os) = serving_in S ∷ servings (after_turn S) os

-- One of the first n turns of the run serves the window w with the question q, and no operation before it changes the row of w.
pub record ServedWithin (n : ℕ) (S : List ℕ) (w : ℕ) (q : Question) (os : List Operation) : Type 0 where
  -- the operations before that turn, and after it
  pub earlier : List Operation
  pub later : List Operation
  pub parted : os ≡ earlier ++ (turning ∷ later)
  pub soon : turns earlier < n
  pub serves : (d : Serving) → get_or (servings S os) (turns earlier) d ≡ record { window = w; question = q }
  pub kept : (k : ℕ) → row_of (after_run S (take k earlier)) w ≡ row_of S w
