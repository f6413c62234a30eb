-- What the functions over rows ensure.
use Rattle.std.specs.Prelude.{ℕ, ◌<◌, ◌≡◌, List, true, take}
use Rattle.find_path_spec.specs.laws.Near.{is_on}
use Rattle.find_path_local.specs.distances.Distances.{distance}
use Rattle.find_path_levels.specs.declared.Stack.{Stack}
use Rattle.find_path_levels.specs.Levels.{levels_of}
use Rattle.find_path_local.specs.near.Numbers.{failures_at}
use Rattle.find_path_local.specs.tight_rows.Rows.{row_at}

-- no row of the first n modules is known, and nothing before the word with the failures is changed
pub record Cleared (A₀ : List ℕ) (n : ℕ) (A : List ℕ) : Type 0 where
  pub none : (m : ℕ) → m < n → row_at A m ≡ 0
  pub below : take failures_at A ≡ take failures_at A₀

-- the modules on the levels have numbers larger than left
abbrev pub Farther : List ℕ → Stack → ℕ → Type 0
Farther A s left = (n : ℕ) → is_on (levels_of A s.place s.depth) n ≡ true → left < distance A n

-- the length left is the module's number, and the modules on the levels are farther
pub record Tight (A : List ℕ) (s : Stack) (left m : ℕ) : Type 0 where
  pub number : left ≡ distance A m
  pub farther : Farther A s left
