-- The reach of a module, with its question and its counts as numbers.
use Rattle.std.specs.Prelude.{ℕ, ◌≡◌, List, length, get_or}
use Rattle.reach.specs.declared.parts.Viewer.{Viewer}
use Rattle.reach.specs.parts.Reach.{reach_of}
use Rattle.answer.specs.Answers.{area_after}

-- viewing module, prefix, options, fuel and limit
abbrev pub viewer_of : List ℕ → Viewer
viewer_of W = record { from = record { 0 = get_or W 0 0 }; prefix = get_or W 1 0; options = get_or W 2 0; fuel = get_or W 3 0; limit = get_or W 4 0 }

-- W are the words, A₀ the work area before the call, A the one after it; r is the number of the refusal, 0 for none
pub record ReachesIn (W A₀ : List ℕ) (v : Viewer) (A counts : List ℕ) (r : ℕ) : Type 0 where
  pub number : r ≡ (reach_of W (length A₀) v).number
  pub told : counts ≡ (reach_of W (length A₀) v).counts
  pub area : A ≡ area_after A₀
