-- What the entry point for a module's reach promises.
use Rattle.std.specs.Prelude.{◌≡◌, List, ℕ, length}
use Rattle.reach.specs.declared.parts.Viewer.{Viewer}
use Rattle.reach.specs.parts.Reach.{Reach, reach_of}
use Rattle.answer.specs.Answers.{area_after}

-- W are the words, A₀ the work area before the call, A the one after it
pub record Reaches (W A₀ : List ℕ) (v : Viewer) (A : List ℕ) (r : Reach) : Type 0 where
  pub reach : r ≡ reach_of W (length A₀) v
  pub area : A ≡ area_after A₀
