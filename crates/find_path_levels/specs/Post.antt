-- What the functions that gather a run of modules require and ensure.
use Rattle.std.specs.Prelude.{ℕ, ◌+◌, ◌≤◌, ◌≡◌, List, length, get_or, take}
use Rattle.snapshot.specs.Limits.{module_limit}
use Rattle.snapshot.specs.Layouts.{table_words}
use Rattle.hir_def.specs.declared.Item.{Item}
use Rattle.find_path_spec.specs.Walk.{visited}
use Rattle.find_path_levels.specs.declared.Stack.{Stack}
use Rattle.find_path_levels.specs.Levels.{run_at, levels_of, Chain, room, walk_room, Placed}
use Rattle.find_path_levels.specs.Push.{push}

-- A run of n modules at the top, all of them different and below 512, with room for all 512 and their places; tables and levels lie below it.
-- (a clause and no type: each push writes to the area, and a value with this fact would have to be made anew after it)
pub record Ready (A : List ℕ) (s : Stack) (n : ℕ) : Type 0 where
  pub tables : table_words ≤ s.top
  pub space : s.top + walk_room ≤ length A
  pub chain : Chain A s.place s.depth s.top
  pub fits : n + room module_limit (run_at A s.top n) ≡ module_limit
  pub places : Placed A s.top n

-- The modules were pushed on the run of n modules, which is now of r modules; nothing below it is changed, nor above its room.
pub record Pushed (A₀ : List ℕ) (s : Stack) (n : ℕ) (item : Item) (ms A : List ℕ) (r : ℕ) : Type 0 where
  pub same : run_at A s.top r ≡ push (visited (levels_of A₀ s.place s.depth) item) (run_at A₀ s.top n) ms
  pub below : take s.top A ≡ take s.top A₀
  pub above : (i : ℕ) → s.top + walk_room ≤ i → get_or A i 0 ≡ get_or A₀ i 0
  pub fits : r + room module_limit (run_at A s.top r) ≡ module_limit
  pub places : Placed A s.top r

-- The modules stand at the top, and nothing below is changed, nor above their room.
pub record Gathered (A₀ : List ℕ) (top : ℕ) (ms A : List ℕ) (r : ℕ) : Type 0 where
  pub run : run_at A top r ≡ ms
  pub below : take top A ≡ take top A₀
  pub above : (i : ℕ) → top + walk_room ≤ i → get_or A i 0 ≡ get_or A₀ i 0
  pub few : r ≤ module_limit
