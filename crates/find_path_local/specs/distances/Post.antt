-- What the functions that set the numbers of the modules require and ensure.
use Rattle.std.specs.Prelude.{ℕ, ◌+◌, ◌≤◌, ◌<◌, ◌≡◌, List, Bool, true, false, length, get_or, take}
use Rattle.snapshot.specs.Limits.{area_limit}
use Rattle.snapshot.specs.Records.{Snapshot}
use Rattle.snapshot.specs.Layouts.{table_words, snap_of}
use Rattle.snapshot.specs.declared.layout.Layout.{Layout}
use Rattle.accept.specs.Post.{Reads}
use Rattle.accept.specs.Valid.{Each}
use Rattle.hir_def.specs.Items.{root_of, own_map}
use Rattle.find_path_spec.specs.declared.FindPathCtx.{FindPathCtx}
use Rattle.find_path_spec.specs.Walk.{has}
use Rattle.find_path_local.specs.distances.Distances.{distance, distances_end, Bounds, Answering, Opened}

-- accepted words and the whole work area
-- (a clause and no type: the area is written between, and a value with this fact would have to be made anew after each write)
pub record Ready (W A : List ℕ) (l : Layout) : Type 0 where
  pub reads : Reads W A l
  pub area : length A ≡ area_limit

-- the numbers of the modules below n are from 1 to 16
abbrev pub Far : ℕ → List ℕ → Type 0
Far n A = (m : ℕ) → m < n → (0 < distance A m) × (distance A m ≤ 16)

-- all of them are 16, and the tables stay
pub record Cleared (A₀ : List ℕ) (n : ℕ) (A : List ℕ) : Type 0 where
  pub all : (m : ℕ) → m < n → distance A m ≡ 16
  pub tables : take table_words A ≡ take table_words A₀

-- the numbers of the crates' roots are at most 1
abbrev pub Rooted : Snapshot → Layout → List ℕ → Type 0
Rooted s l A = (c : ℕ) → c < l.crates → distance A (root_of s (own_map s c)) ≤ 1

-- numbers that are at most 1 where a rule answers stand there, and the tables stay
pub record Marked (W A₀ : List ℕ) (l : Layout) (x : FindPathCtx) (A : List ℕ) : Type 0 where
  pub far : Far l.modules A
  pub answers : Answering (snap_of W A₀ l) x l.modules (distance A)
  pub tables : take table_words A ≡ take table_words A₀

-- what was marked is, and the tables and the words past the numbers stay
pub record Sifted (W A₀ : List ℕ) (l : Layout) (x : FindPathCtx) (A : List ℕ) : Type 0 where
  pub marks : (B : List ℕ) → Reads W B l → Marked W B l x A₀ → Marked W B l x A
  pub beyond : (i : ℕ) → distances_end ≤ i → get_or A i 0 ≡ get_or A₀ i 0
  pub tables : take table_words A ≡ take table_words A₀

-- no word is larger than before, none became 0, and the tables stay
pub record Lowers (A₀ A : List ℕ) : Type 0 where
  pub less : (i : ℕ) → get_or A i 0 ≤ get_or A₀ i 0
  pub some : (i : ℕ) → 0 < get_or A₀ i 0 → 0 < get_or A i 0
  pub tables : take table_words A ≡ take table_words A₀

-- each number stays or became d, which is less; words past the numbers stay, and without a change all
pub record Steps (A₀ : List ℕ) (d : ℕ) (A : List ℕ) (r : Bool) : Type 0 where
  pub lowers : Lowers A₀ A
  pub beyond : (i : ℕ) → distances_end ≤ i → get_or A i 0 ≡ get_or A₀ i 0
  pub changed : (m : ℕ) → (distance A m ≡ distance A₀ m → ⊥) → (distance A m ≡ d) × (d < distance A₀ m)
  pub same : r ≡ false → A ≡ A₀

-- the steps from m were made where its number is d; there is no more to do where no other number than 16 is larger than d
pub record Turned (s : Snapshot) (x : FindPathCtx) (A₀ : List ℕ) (m d : ℕ) (A : List ℕ) (r : Bool) : Type 0 where
  pub steps : Steps A₀ (d + 1) A r
  pub opened : distance A₀ m ≡ d → Each (Opened s x (distance A) m (d + 1)) s.scopes
  pub done : r ≡ false → d < distance A₀ m → 16 ≤ distance A₀ m

-- so for all modules of a list
pub record Round (s : Snapshot) (x : FindPathCtx) (A₀ : List ℕ) (ms : List ℕ) (d : ℕ) (A : List ℕ) (r : Bool) : Type 0 where
  pub steps : Steps A₀ (d + 1) A r
  pub opened : (m : ℕ) → has ms m ≡ true → distance A₀ m ≡ d → Each (Opened s x (distance A) m (d + 1)) s.scopes
  pub done : r ≡ false → (m : ℕ) → has ms m ≡ true → d < distance A₀ m → 16 ≤ distance A₀ m

-- the numbers stand there, and the tables and the words past the numbers stay
pub record Bounded (W A₀ : List ℕ) (l : Layout) (x : FindPathCtx) (A : List ℕ) : Type 0 where
  pub beyond : (i : ℕ) → distances_end ≤ i → get_or A i 0 ≡ get_or A₀ i 0
  pub bounds : Bounds (snap_of W A₀ l) x l.modules (distance A)
  pub tables : take table_words A ≡ take table_words A₀
