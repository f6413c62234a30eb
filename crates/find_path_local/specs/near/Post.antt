-- What the functions that look for what is near under the levels ensure.
use Rattle.std.specs.Prelude.{ℕ, ◌+◌, ◌≤◌, ◌<◌, ◌≡◌, List, true, get_or, take}
use Rattle.snapshot.specs.Limits.{module_limit}
use Rattle.snapshot.specs.Records.{Snapshot}
use Rattle.accept.specs.Valid.{Each}
use Rattle.find_path_spec.specs.declared.FindPathCtx.{FindPathCtx}
use Rattle.find_path_spec.specs.Walk.{Level, has}
use Rattle.find_path_local.specs.distances.Distances.{distance}
use Rattle.find_path_local.specs.near.Numbers.{number, Opened}
use Rattle.find_path_local.specs.tight_rows.Rows.{rows_at}

-- nothing below the top is changed, nor a row
pub record Scratched (top : ℕ) (A₀ A : List ℕ) : Type 0 where
  pub below : take top A ≡ take top A₀
  pub above : (i : ℕ) → rows_at ≤ i → get_or A i 0 ≡ get_or A₀ i 0

-- the numbers of the modules below n are at least 1, and 1 where that in `distances` is at most 1
pub record Begun (top n : ℕ) (A₀ A : List ℕ) : Type 0 where
  pub scratched : Scratched top A₀ A
  pub some : (m : ℕ) → m < n → 0 < number A top m
  pub one : (m : ℕ) → m < n → distance A₀ m ≤ 1 → number A top m ≤ 1

-- each number stays or became d, which is less
pub record Falls (top d : ℕ) (A₀ A : List ℕ) : Type 0 where
  pub scratched : Scratched top A₀ A
  pub changed : (m : ℕ) → m < module_limit → (number A top m ≡ number A₀ top m → ⊥) → (number A top m ≡ d) × (d < number A₀ top m)

-- the steps from the modules of the list with the number d were made
pub record Turned (s : Snapshot) (x : FindPathCtx) (ls : List Level) (ms : List ℕ) (top d : ℕ) (A₀ A : List ℕ) : Type 0 where
  pub falls : Falls top (d + 1) A₀ A
  pub opened : (c : ℕ) → c < module_limit → has ms c ≡ true → number A₀ top c ≡ d → Each (Opened s x ls (number A top) c (d + 1)) s.scopes
