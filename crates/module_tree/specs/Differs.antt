-- Where the walk and privacy differ.
use Rattle.std.specs.Prelude.{◌≡◌, Bool, true, ◌⊎◌, ℕ, zero, suc, ◌<◌, length}
use Rattle.snapshot.specs.Records.{Snapshot}
use Rattle.module_tree.specs.rules.Modules.{map_no, parent_of, block_of, containing}
use Rattle.module_tree.specs.rules.Visibility.{climb_step, climb}

-- the steps from v meet t
pub data Meets (step : ℕ → ℕ) (t : ℕ) : ℕ → Type 0 where
  now : {v : ℕ} → v ≡ t → Meets step t v
  on : {v w : ℕ} → step v ≡ suc w → Meets step t w → Meets step t v

-- t is v, or contains it
abbrev pub Within : Snapshot → ℕ → ℕ → Type 0
Within s v t = Meets (containing s) t v

-- x is the first module with a parent that the climb from t leaves, for a viewer of the map k: a `mod` inside a block
pub data Leaves (s : Snapshot) (k x : ℕ) : ℕ → Type 0 where
  here : {t b p : ℕ} → climb_step s k t ≡ suc b → parent_of s t ≡ suc p → t ≡ x → Leaves s k x t
  later : {t b : ℕ} → climb_step s k t ≡ suc b → parent_of s t ≡ 0 → Leaves s k x b → Leaves s k x t

-- The climb leaves a `mod` inside a block; the viewer is within the module where the climb ends, and outside of that `mod`.
pub record Differs (s : Snapshot) (v t : ℕ) : Type 0 where
  pub left : ℕ
  pub leaves : Leaves s (map_no s v) left t
  pub near : Within s v (climb s (map_no s v) t)
  pub far : Within s v left → ⊥

-- public and crate visibilities never differ
abbrev pub Exception : Snapshot → ℕ → ℕ → ℕ → Type 0
Exception s zero n v = ⊥
Exception s (suc zero) n v = ⊥
Exception s (suc (suc k)) n v = Differs s v n

-- the number of a module visibility is a module
abbrev pub Known : Snapshot → ℕ → ℕ → Type 0
Known s zero n = Unit {0}
Known s (suc zero) n = Unit {0}
Known s (suc (suc k)) n = n < length s.modules

-- The answer r is yes wherever P holds, and besides that exactly where D does; P and D never hold together.
pub record Answers (r : Bool) (P D : Type 0) : Type 0 where
  pub complete : P → r ≡ true
  pub sound : r ≡ true → P ⊎ D
  pub wrong : D → (r ≡ true) × (P → ⊥)

-- a module declared inside a block, and not in the map k
pub record InBlock (s : Snapshot) (k x : ℕ) : Type 0 where
  pub other : map_no s x ≡ k → ⊥
  pub above : ℕ
  pub around : block_of s x ≡ suc above
  pub owner : ℕ
  pub under : parent_of s x ≡ suc owner
