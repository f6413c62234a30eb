-- A turn of the windows, with its report as words.
use Rattle.std.specs.Prelude.{ℕ, ◌≡◌, true, false, List, eqb, length}
use Rattle.find_path_spec.specs.Report.{report_of}
use Rattle.reports.specs.Written.{written_to}
use Rattle.windows.specs.rules.States.{asked_by, served, after_turn}
use Rattle.windows.specs.Windows.{area_turned}

-- the report of the question served is written to the words old; an idle turn leaves them
unfoldable pub report_turned : List ℕ → List ℕ → ℕ → List ℕ → List ℕ
report_turned S W area old =
    elim (eqb (served S) 8) [ true ↦ old | false ↦ written_to (report_of W area (asked_by S (served S))) old ]

-- W are the words; S₀, A₀ and old are the state, the work area and the words of the report before the turn, S, A and new after it; r is
-- the window, 8 for none
pub record Served (S₀ W A₀ old S A new : List ℕ) (r : ℕ) : Type 0 where
  pub window : r ≡ served S₀
  pub state : S ≡ after_turn S₀
  pub area : A ≡ area_turned S₀ A₀
  pub report : new ≡ report_turned S₀ W (length A₀) old

-- a report that is too short: nothing is served, and all stays
pub record Unserved (S₀ A₀ old S A new : List ℕ) (r : ℕ) : Type 0 where
  pub none : r ≡ 9
  pub state : S ≡ S₀
  pub area : A ≡ A₀
  pub report : new ≡ old
