-- What placing a question and a turn promise.
use Rattle.std.specs.Prelude.{ℕ, ◌≡◌, Bool, true, false, List, eqb, length, Result, Ok, Err, Option, None, Some}
use Rattle.snapshot.specs.declared.refusal.Refusal.{Refusal}
use Rattle.windows.specs.declared.state.rows.Windows.{Windows}
use Rattle.find_path_spec.specs.declared.Question.{Question}
use Rattle.find_path_spec.specs.declared.Report.{Report}
use Rattle.find_path_spec.specs.Report.{refused, report_of}
use Rattle.answer.specs.Answers.{area_after}
use Rattle.windows.specs.declared.turns.Served.{Served}
use Rattle.windows.specs.rules.States.{place_fault, after_place, asked_by, served, after_turn}

-- S₀ is the state before the call, S after it; r is the number of the refusal
pub record Placed (S₀ : List ℕ) (w : ℕ) (q : Question) (S : List ℕ) (r : ℕ) : Type 0 where
  pub number : r ≡ place_fault S₀ w
  pub state : S ≡ after_place S₀ w q

-- the state that an answer leaves: the new one, or that before a refusal
abbrev pub left : Windows → Result Windows Refusal → Windows
left w (Ok v) = v
left w (Err k) = w

-- a turn: idle, or the window that was served and the report of its question
pub record Turn : Type 0 where
  pub idle : Bool
  pub window : ℕ
  pub report : Report

-- no window, and a report that is neither a path nor none
unfoldable pub idle_turn : Turn
idle_turn = record { idle = true; window = 8; report = refused 0 }

-- a window, and the report of its question put alone
unfoldable pub serving_turn : List ℕ → List ℕ → ℕ → ℕ → Turn
serving_turn S W area w = record { idle = false; window = w; report = report_of W area (asked_by S w) }

-- what is told of what a turn served
abbrev pub told : Option Served → Turn
told None = idle_turn
told (Some r) = record { idle = false; window = r.window.number; report = r.report }

-- what a turn gives in the state S, on the words W, with a work area of so many words
unfoldable pub turn_of : List ℕ → List ℕ → ℕ → Turn
turn_of S W area = elim (eqb (served S) 8) [ true ↦ idle_turn | false ↦ serving_turn S W area (served S) ]

-- an idle turn leaves the work area as it was
unfoldable pub area_turned : List ℕ → List ℕ → List ℕ
area_turned S A = elim (eqb (served S) 8) [ true ↦ A | false ↦ area_after A ]

-- W are the words; S₀ and A₀ are the state and the work area before the turn, S and A after it
pub record Turned (S₀ W A₀ S A : List ℕ) (r : Turn) : Type 0 where
  pub turn : r ≡ turn_of S₀ W (length A₀)
  pub state : S ≡ after_turn S₀
  pub area : A ≡ area_turned S₀ A₀
