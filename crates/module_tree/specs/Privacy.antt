-- Privacy, from the Rust Reference's chapter "Visibility and Privacy" and not from the walk: an item is visible in a module and in
-- the descendants of that module. A block is no module: what stands in a block stands in the nearest module around it.
use Rattle.std.specs.Prelude.{◌≡◌, ℕ, zero, suc}
use Rattle.snapshot.specs.Records.{Snapshot}
use Rattle.module_tree.specs.rules.Modules.{parent_of, block_of, crate_of}

-- What stands in the recorded module m stands in the module x: m itself, or, for the root of a block's map, the module in which
-- the block stands.
pub data StandsIn (s : Snapshot) (x : ℕ) : ℕ → Type 0 where
  inner : {m p : ℕ} → parent_of s m ≡ suc p → m ≡ x → StandsIn s x m
  outermost : {m : ℕ} → parent_of s m ≡ 0 → block_of s m ≡ 0 → m ≡ x → StandsIn s x m
  block : {m b : ℕ} → parent_of s m ≡ 0 → block_of s m ≡ suc b → StandsIn s x b → StandsIn s x m

-- x is the module y or a descendant of it: one whose `mod` stands in y or in a descendant
pub data Descends (s : Snapshot) (y : ℕ) : ℕ → Type 0 where
  itself : {x : ℕ} → x ≡ y → Descends s y x
  child : {x p q : ℕ} → parent_of s x ≡ suc p → StandsIn s q p → Descends s y q → Descends s y x

-- what is visible in the module t is visible from v
pub record Visible (s : Snapshot) (v t : ℕ) : Type 0 where
  pub here : ℕ
  pub there : ℕ
  pub viewer : StandsIn s here v
  pub target : StandsIn s there t
  pub descends : Descends s there here

-- 0 public, 1 crate, 2 and 3 module, with its number; seen from the module v
abbrev pub Privacy : Snapshot → ℕ → ℕ → ℕ → Type 0
Privacy s zero n v = Unit {0}
Privacy s (suc zero) n v = crate_of s v ≡ n
Privacy s (suc (suc k)) n v = Visible s v n
