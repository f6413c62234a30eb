-- Tests of an item.
use mathlib.Core.Path.{◌≡◌, refl}
use Rattle.hir_def.specs.Items.{same_item}
use Rattle.hir_def.specs.declared.Item.{Item}
use Rattle.hir_def.specs.declared.Item.TheVariants.{Mod, Def}
use Rattle.hir_def.specs.contracts.ItemPartialEq.TheImpl.{eq-value}

-- what `==` of items says
pub item_eq : (a b : Item) → eq-value.it a b ≡ same_item a b
unfolding same_item
item_eq (Mod m) (Mod n) = refl
item_eq (Mod m) (Def ns d) = refl
item_eq (Def ns d) (Mod n) = refl
item_eq (Def ns d) (Def ns' d') = refl
