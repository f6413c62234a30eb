-- What the functions over the walk ensure.
use Rattle.std.specs.Prelude.{ℕ, ◌+◌, ◌≤◌, ◌≡◌, List, get_or, take}
use Rattle.snapshot.specs.Limits.{module_limit}
use Rattle.snapshot.specs.Layouts.{snap_of}
use Rattle.snapshot.specs.declared.layout.Layout.{Layout}
use Rattle.find_path_levels.specs.Levels.{run_at, walk_room}
use Rattle.find_path_levels.specs.walk_once.Walked.{walk_at, Walked}

-- the walk stands there, and nothing before it or past its room is changed
pub record Kept (W A₀ : List ℕ) (l : Layout) (from : ℕ) (A : List ℕ) : Type 0 where
  pub walked : Walked (snap_of W A₀ l) from A
  pub below : take walk_at A ≡ take walk_at A₀
  pub above : (i : ℕ) → walk_at + walk_room ≤ i → get_or A i 0 ≡ get_or A₀ i 0

-- the first n modules of the walk stand at a place, and nothing below it is changed, nor above their room
pub record Copied (A₀ : List ℕ) (to n : ℕ) (A : List ℕ) : Type 0 where
  pub run : run_at A to n ≡ run_at A₀ walk_at n
  pub below : take to A ≡ take to A₀
  pub above : (i : ℕ) → to + module_limit ≤ i → get_or A i 0 ≡ get_or A₀ i 0
