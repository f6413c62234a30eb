-- The state of eight windows: 65 words. Word 0 is the window from which the next turn counts, modulo 8; a row of eight words for each
-- window follows: whether its question waits (any word but 0), and the question's seven words.
use Rattle.std.specs.Prelude.{ℕ, zero, suc, ◌+◌, ◌*◌, ◌%◌, Bool, true, false, not, List, [], ◌∷◌, ◌++◌, eqb, ltb, get_or, set, take, drop, replicate}
use Rattle.snapshot.specs.Refusals.{window_refusal, waits_refusal}
use Rattle.find_path_spec.specs.declared.Question.{Question}
use Rattle.reports.specs.questions.Questions.{question_of}

-- the words of a window
unfoldable pub row_of : List ℕ → ℕ → List ℕ
row_of S w = take 8 (drop (1 + 8 * w) S)

-- other words for a window
unfoldable pub with_row : List ℕ → ℕ → List ℕ → List ℕ
with_row S w row = take (1 + 8 * w) S ++ (row ++ drop (1 + 8 * w + 8) S)

-- the question of a window waits
unfoldable pub waits : List ℕ → ℕ → Bool
waits S w = not (eqb (get_or S (1 + 8 * w) 0) 0)

-- that question
unfoldable pub asked_by : List ℕ → ℕ → Question
asked_by S w = question_of (drop (1 + 8 * w + 1) S)

-- the words of a window whose question waits
unfoldable pub waiting : Question → List ℕ
waiting q =
    1 ∷ q.query.ns ∷ q.query.definition.0 ∷ q.query.from.0 ∷ q.query.prefix ∷ q.query.options ∷ q.fuel ∷ q.query.limit ∷ []

-- a question placed: 49 no such window, 50 a question of the window waits already, 0 for none
unfoldable pub place_fault : List ℕ → ℕ → ℕ
place_fault S w = elim (ltb 7 w) [ true ↦ window_refusal | false ↦ elim (waits S w) [ true ↦ waits_refusal | false ↦ 0 ] ]

-- a refusal leaves the state as it was
unfoldable pub placed_unless : List ℕ → ℕ → Question → ℕ → List ℕ
placed_unless S w q zero = with_row S w (waiting q)
placed_unless S w q (suc n) = S

unfoldable pub after_place : List ℕ → ℕ → Question → List ℕ
after_place S w q = placed_unless S w q (place_fault S w)

-- the first of n windows, counting round from one of them, that waits; 8 where none waits
unfoldable pub first_from : List ℕ → ℕ → ℕ → ℕ
first_from S w zero = 8
first_from S w (suc n) = elim (waits S w) [ true ↦ w | false ↦ first_from S ((w + 1) % 8) n ]

-- the window that a turn serves, 8 where none waits
unfoldable pub served : List ℕ → ℕ
served S = first_from S (get_or S 0 0 % 8) 8

-- the window's row is empty, and the next turn counts from the window after it
unfoldable pub after_serving : List ℕ → ℕ → List ℕ
after_serving S w = set (with_row S w (replicate 8 0)) 0 ((w + 1) % 8)

-- an idle turn leaves the state as it was
unfoldable pub after_turn : List ℕ → List ℕ
after_turn S = elim (eqb (served S) 8) [ true ↦ S | false ↦ after_serving S (served S) ]
