-- What the functions of the local search require and ensure.
use Rattle.std.specs.Prelude.{ℕ, ◌+◌, ◌*◌, ◌≤◌, ◌<◌, ◌≡◌, List, Option, length, take}
use Rattle.snapshot.specs.Limits.{module_limit, path_limit, area_limit}
use Rattle.snapshot.specs.Layouts.{table_words, snap_of}
use Rattle.snapshot.specs.declared.layout.Layout.{Layout}
use Rattle.accept.specs.Post.{Reads}
use Rattle.find_path_choice.specs.declared.Choice.{Choice as Path}
use Rattle.find_path_choice.specs.Choices.{Choice}
use Rattle.find_path_choice.specs.Given.{given}
use Rattle.find_path_spec.specs.declared.FindPathCtx.{FindPathCtx}
use Rattle.find_path_local.specs.distances.Distances.{distance, Bounds}
use Rattle.find_path_levels.specs.declared.Stack.{Stack}
use Rattle.find_path_levels.specs.Levels.{Chain}
use Rattle.find_path_levels.specs.walk_once.Walked.{walk_end, Walked}
use Rattle.find_path_local.specs.tight_rows.Rows.{rows_at, Rows}

-- words of a level: three, and its run of modules
abbrev pub level_size : ℕ
level_size = 3 + module_limit

-- The arguments of a local search of that length: the words of each level that it can open, the numbers of the modules and
-- the walk below them, and the rows above.
-- (a clause and no type: the area is written between, and a value with this fact would have to be made anew after each write)
pub record Searchable (W A : List ℕ) (l : Layout) (x : FindPathCtx) (left : ℕ) (s : Stack) : Type 0 where
  pub reads : Reads W A l
  pub from : x.from.0 < l.modules
  pub area : length A ≡ area_limit
  pub tables : table_words ≤ s.top
  pub numbers : walk_end ≤ s.top
  pub bounds : Bounds (snap_of W A l) x l.modules (distance A)
  pub walked : Walked (snap_of W A l) x.from.0 A
  pub rows : Rows W A l x
  pub space : s.top + level_size * left ≤ rows_at
  pub deep : s.depth + left ≤ path_limit
  pub chain : Chain A s.place s.depth s.top
  pub under : s.place ≤ s.top

-- The choice of a local search; nothing below top is changed, and the rows hold.
pub record Answered (W A₀ : List ℕ) (l : Layout) (x : FindPathCtx) (top : ℕ) (c : Choice) (A : List ℕ) (r : Option Path) : Type 0 where
  pub same : given r ≡ c
  pub below : take top A ≡ take top A₀
  pub rows : Rows W A l x
