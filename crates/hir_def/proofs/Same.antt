-- Items that pass the test of equal ones, and the namespace of an item.
use mathlib.Core.Path.{◌≡◌, refl, sym, ap, ap₂}
use mathlib.Core.Bool.{true, ◌&&◌, false≢true}
use Prim.Native.Nat.{ℕ}
use lib.Dec.{eqb}
use borrow.Author.Tests.{eq-eqb, eqb-true}
use Rattle.std.proofs.lemmas.Bool.{and_parts}
use Rattle.snapshot.specs.Records.{Snapshot}
use Rattle.accept.proofs.Accepted.{by_test}
use Rattle.hir_def.specs.Items.{types, module_kind, definition_of, item_of, same_item, ns_of, module_item, defined_item}
use Rattle.hir_def.specs.declared.Item.{Item}
use Rattle.hir_def.specs.declared.Item.TheVariants.{Mod, Def}

pub same_item_lem : (a b : Item) → same_item a b ≡ true → a ≡ b
unfolding same_item
same_item_lem (Mod m) (Mod n) e = ap module_item (eqb-true m.0 n.0 e)
same_item_lem (Mod m) (Def ns d) e = absurd (false≢true e)
same_item_lem (Def ns d) (Mod n) e = absurd (false≢true e)
same_item_lem (Def ns d) (Def ns' d') e =
    let f = and_parts (eqb ns.0 ns'.0) (eqb d.0 d'.0) e in
    ap₂ defined_item (eqb-true ns.0 ns'.0 f.0) (eqb-true d.0 d'.0 f.1)

pub same_self : (a : Item) → same_item a a ≡ true
unfolding same_item
same_self (Mod m) = eq-eqb m.0 m.0 refl
same_self (Def ns d) = ap₂ (λ x y. x && y) (eq-eqb ns.0 ns.0 refl) (eq-eqb d.0 d.0 refl)

-- the namespace of an item that a record stands for
pub ns_of_item : (s : Snapshot) (ns d : ℕ) → ns_of (item_of s ns d) ≡ ns
unfolding ns_of item_of
ns_of_item s ns d =
    by_test (eqb ns types && eqb (definition_of s d).kind module_kind)
    (λ t. rw (t, item_of) (sym (eqb-true ns types (and_parts (eqb ns types) (eqb (definition_of s d).kind module_kind) t).0)))
    (λ t. rw (t, item_of))
