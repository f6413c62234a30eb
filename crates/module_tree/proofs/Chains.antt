-- In an accepted snapshot the chains of modules fall.
use mathlib.Core.Path.{◌≡◌}
use Prim.Native.Nat.{ℕ, zero, suc, ◌<◌}
use native.Mathlib.Omega.{arith}
use native.Mathlib.Decide.{dec_le}
use mathlib.Core.Bool.{Bool, true, false}
use lib.ListN.{length}
use Rattle.snapshot.specs.Records.{Snapshot}
use Rattle.accept.specs.Valid.{map_in, Tree}
use Rattle.module_tree.specs.rules.Modules.{module_of, map_of, map_no, crate_of, parent_of, block_of, or_else, containing}
use Rattle.module_tree.specs.rules.Visibility.{unless, climb_step}
use Rattle.module_tree.proofs.Laws.{Falls}

or_falls : (v w p b : ℕ) → or_else p b ≡ suc w → (p ≡ suc w → w < v) → (b ≡ suc w → w < v) → w < v
unfolding or_else
or_falls v w zero b q f g = g (omega arith)
or_falls v w (suc p) b q f g = f (omega arith)

unless_falls : (v w b : ℕ) (t : Bool) → unless t b ≡ suc w → (b ≡ suc w → w < v) → w < v
unfolding unless
unless_falls v w b true q f = absurd (omega arith)
unless_falls v w b false q f = f (omega arith)

module _ (s : Snapshot) (t : Tree s.maps s.modules) where
  -- a module's map is there
  pub map_known : (m : ℕ) → m < length s.modules → map_no s m < length s.maps
  unfolding module_of
  map_known m h = t.known m h

  -- a module's parent is an earlier module of its map
  pub parent_fits : (m p : ℕ) → m < length s.modules → parent_of s m ≡ suc p → (p < m) × (map_no s p ≡ map_no s m)
  unfolding module_of
  parent_fits m p h e = t.parents m p h e

  -- a block's parent is an earlier module of its crate
  pub block_fits : (m b : ℕ) → m < length s.modules → block_of s m ≡ suc b → (b < m) × (crate_of s b ≡ crate_of s m)
  unfolding module_of map_of
  block_fits m b h e =
      let f = t.blocks (map_in s.modules m) b (t.known m h) e in
      (elim (dec_le m b) [ yes l ↦ absurd (omega (arith, t.rise m b l f.0, f.1)) | no l ↦ omega arith ], f.2)

  -- a block's parent is an earlier module
  pub block_falls : Falls (block_of s) (length s.modules)
  block_falls v w h k = (block_fits v w h k).0

  -- a containing module is an earlier one
  pub containing_falls : Falls (containing s) (length s.modules)
  unfolding containing
  containing_falls v w h k =
      or_falls v w (parent_of s v) (block_of s v) k (λ q. (parent_fits v w h q).0) (λ q. block_falls v w h q)

  -- so is the module that a target climbs to
  pub climb_falls : (k : ℕ) → Falls (climb_step s k) (length s.modules)
  unfolding climb_step
  climb_falls k v w h q = unless_falls v w (block_of s v) _ q (λ b. block_falls v w h b)

  -- a module without a parent is its map's first
  pub root_first : (m j : ℕ) → m < length s.modules → parent_of s m ≡ 0 → j < m → map_no s j ≡ map_no s m → ⊥
  unfolding module_of
  root_first m j h z l e = t.roots m j h z l e
