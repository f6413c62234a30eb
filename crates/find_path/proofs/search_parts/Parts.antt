-- The small parts of the search, case by case, as the code takes them.
use mathlib.Core.Path.{◌≡◌, refl, sym, ap}
use Prim.Native.Nat.{ℕ, ◌+◌}
use mathlib.Core.List.{[], ◌∷◌}
use mathlib.Core.Bool.{Bool, true, false, false≢true}
use Rattle.hir_def.specs.Items.{defined_item, module_item}
use Rattle.hir_def.specs.declared.Item.{Item}
use Rattle.find_path_spec.specs.Charged.{langs}
use Rattle.find_path.specs.search_parts.Parts.{straight}

-- the origins
pub langs_first : (b : Bool) → b ≡ true → 1 ∷ 2 ∷ 3 ∷ [] ≡ langs b
unfolding langs
langs_first b e = sym (ap langs e)

pub langs_other : (b : Bool) → b ≡ false → 3 ∷ 1 ∷ 2 ∷ [] ≡ langs b
unfolding langs
langs_other b e = sym (ap langs e)

-- a module at once, or not
pub straight_std : (b : Bool) (item : Item) → b ≡ true → 0 ≡ straight b item
unfolding straight
straight_std true item e = refl
straight_std false item e = absurd (false≢true e)

pub straight_module : (b : Bool) {item : Item} {m : ℕ} → b ≡ false → item ≡ module_item m → m + 1 ≡ straight b item
unfolding straight
straight_module true e h = absurd (false≢true (sym e))
straight_module false e h = sym (ap (straight false) h)

pub straight_other : (b : Bool) {item : Item} {n d : ℕ} → b ≡ false → item ≡ defined_item n d → 0 ≡ straight b item
unfolding straight
straight_other true e h = absurd (false≢true (sym e))
straight_other false e h = sym (ap (straight false) h)
