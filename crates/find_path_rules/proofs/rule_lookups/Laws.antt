-- Laws of the tests of an entry, for the code.
use Prim.Native.Nat.{ℕ}
use mathlib.Core.Path.{◌≡◌, refl, sym, ◌∙◌, ap}
use mathlib.Core.Bool.{Bool, true, false, ◌&&◌, ◌||◌, not, false≢true}
use Rattle.std.specs.Prelude.{Option}
use Rattle.snapshot.specs.Records.{Snapshot, Scope}
use Rattle.hir_def.specs.Items.{ns_of}
use Rattle.module_tree.specs.rules.Visibility.{sees}
use Rattle.hir_def.specs.ItemScope.{is_deprecated, is_fresh}
use Rattle.hir_def.specs.Nameres.{entry_named}
use Rattle.hir_def.specs.declared.Item.{Item}
use Rattle.find_path_spec.specs.declared.FindPathCtx.{FindPathCtx}
use Rattle.find_path_spec.specs.Rules.{same_here, is_usable}

-- the tests of a rule, part by part
module _ (s : Snapshot) (x : FindPathCtx) (e : Scope) where
  pub usable_same : (item : Item) {n k : ℕ} {o : Option Scope} {a b : Bool} → n ≡ e.name → k ≡ ns_of item → a ≡ sees s x.from.0 e
      → o ≡ entry_named s x.from.0 k n → b ≡ same_here s x item o
      → a && b ≡ is_usable s x item e
  usable_same item en ek ea eo eb = cc

not_fresh : (its d t : Bool) → not its || d ≡ true → false ≡ (its && (t && not d))
not_fresh false d t h = refl
not_fresh true true true h = refl
not_fresh true true false h = refl
not_fresh true false t h = absurd (false≢true h)

as_fresh : (its d t : Bool) → not its || d ≡ false → t ≡ (its && (t && not d))
as_fresh false d t h = absurd (false≢true (sym h))
as_fresh true true t h = absurd (false≢true (sym h))
as_fresh true false true h = refl
as_fresh true false false h = refl

-- an entry that isn't the item's or is deprecated, and another one
module _ (p : Scope → Bool) (e : Scope) (its : Bool) {d : Bool} (ed : d ≡ is_deprecated e) where
  pub fresh_no : not its || d ≡ true → false ≡ (its && is_fresh p e)
  fresh_no h = not_fresh its (is_deprecated e) (p e) (ap (λ y. not its || y) (sym ed) ∙ h)

  pub fresh_yes : {t : Bool} → t ≡ p e → not its || d ≡ false → t ≡ (its && is_fresh p e)
  fresh_yes et h = et ∙ as_fresh its (is_deprecated e) (p e) (ap (λ y. not its || y) (sym ed) ∙ h)

-- the fresh entries for an item are entries for it
pub less_fresh : (q p : Scope → Bool) (y : Scope) → q y ≡ false → (q y && p y) ≡ false
less_fresh q p y e = ap (λ b. b && p y) e
