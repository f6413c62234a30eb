-- The modules on the levels, and their numbers.
use Prim.Native.Nat.{ℕ, zero, suc, ◌+◌, ◌-◌, ◌<◌, ◌/◌, ◌%◌}
use mathlib.Core.Path.{◌≡◌, refl, ap}
use mathlib.Core.List.{List}
use mathlib.Core.Bool.{Bool, true, false, not, false≢true}
use mathlib.Core.Logic.{⊎_elim}
use native.Mathlib.Omega.{arith}
use lib.Dec.{eqb}
use lib.ListN.{get_or}
use borrow.Author.Tests.{eqb-true}
use Rattle.snapshot.specs.Lists.{any}
use Rattle.snapshot.specs.Layouts.{table_words}
use Rattle.hir_def.specs.Items.{same_item, module_item}
use Rattle.find_path_spec.specs.laws.Near.{is_on}
use Rattle.find_path_spec.proofs.laws.Fewer.{either}
use Rattle.find_path_local.specs.distances.Distances.{distance}
use Rattle.find_path_levels.specs.Levels.{item_by, item_at, levels_of}
use Rattle.find_path_levels.specs.Each.{ends_at, AnyBy}

-- the word of a module's item
module _ (w n : ℕ) where
  same_by_lem : (b : Bool) → eqb (w % 4) 3 ≡ b → same_item (item_by w b) (module_item n) ≡ true → (w % 4 ≡ 3) × (w / 4 ≡ n)
  unfolding item_by same_item
  same_by_lem true e h = (eqb-true _ _ e, eqb-true _ _ h)
  same_by_lem false e h = absurd (false≢true h)

  pub same_module : same_item (item_at w) (module_item n) ≡ true → (w % 4 ≡ 3) × (w / 4 ≡ n)
  same_module = same_by_lem (eqb (w % 4) 3) refl

-- the number of the module whose item a word is
pub far_item : (A : List ℕ) (w left n : ℕ) {v : ℕ} → v ≡ get_or A (table_words + w / 4) 0 → left < v
    → same_item (item_at w) (module_item n) ≡ true → left < distance A n
far_item A w left n e h o =
    let q : get_or A (table_words + w / 4) 0 ≡ distance A n = ap (λ z. get_or A (table_words + z) 0) (same_module w n o).1 in
    omega (arith, e, h, q)

-- where no level passes the test of a near one
module _ (P : ℕ → Bool → Type 0) (A : List ℕ) (left : ℕ)
    (far : (p : ℕ) → P p false → (n : ℕ) → same_item (item_at (get_or A (p - 3) 0)) (module_item n) ≡ true → left < distance A n) where
  far_levels : (p d : ℕ) → AnyBy P A p d false → (n : ℕ) → is_on (levels_of A p d) n ≡ true → left < distance A n
  unfolding AnyBy ends_at levels_of is_on any
  far_levels p zero x n o = absurd (false≢true o)
  far_levels p (suc d) (true, q, e) n o = absurd (false≢true e)
  far_levels p (suc d) (false, q, x) n o =
      ⊎_elim (λ t. far p q n t) (λ t. far_levels (get_or A (p - 2) 0) d x n t)
      (either (same_item (item_at (get_or A (p - 3) 0)) (module_item n)) (is_on (levels_of A (get_or A (p - 2) 0) d) n) o)

  pub clear_levels : (p d : ℕ) (r : Bool) → AnyBy P A p d r → not r ≡ true → (n : ℕ) → is_on (levels_of A p d) n ≡ true → left < distance A n
  clear_levels p d true x e = absurd (false≢true e)
  clear_levels p d false x e = far_levels p d x
