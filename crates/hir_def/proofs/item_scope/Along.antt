-- The entries of a module, and what an enumeration of them met.
use Prim.Native.Nat.{ℕ, ◌+◌, ◌-◌, ◌<◌}
use mathlib.Core.Path.{◌≡◌, sym, ap, ◌∙◌}
use mathlib.Core.List.{List}
use mathlib.Core.Bool.{false, ◌&&◌}
use native.Mathlib.Omega.{arith}
use lib.Dec.{eqb}
use borrow.Author.Tests.{eqb-true, ne_eqb}
use Rattle.snapshot.specs.Sizes.{scope_size}
use Rattle.snapshot.specs.Records.{Scope, scope_at}
use Rattle.snapshot.specs.Layouts.{scope_base, snap_of}
use Rattle.snapshot.specs.declared.layout.Layout.{Layout}
use Rattle.record_index.specs.Index.{key_of, Follows}
use Rattle.record_index.specs.declared.chains.Chain.TheVariants.{Modules}
use Rattle.accept.specs.Post.{Reads}
use Rattle.accept.proofs.Bools.{and_left, and_right}
use Rattle.accept.proofs.Laws.{and_no}
use Rattle.hir_def.specs.Items.{definition_of}
use Rattle.hir_def.specs.Entries.{Meets}
use Rattle.hir_def.specs.ItemScope.{is_named, is_module_entry, entry_module}
use Rattle.hir_def.proofs.Fits.{module_meets, module_known}

-- those with a name, and those for modules

pub named_within : (m ns name : ℕ) (y : Scope) → (y.owner ≡ m → ⊥) → is_named m ns name y ≡ false
named_within m ns name y n = sym (and_no _ (ne_eqb _ _ n))

pub module_within : (W A : List ℕ) (l : Layout) (m : ℕ) (y : Scope) → (y.owner ≡ m → ⊥) → is_module_entry (snap_of W A l) m y ≡ false
module_within W A l m y n = sym (and_no _ (ne_eqb _ _ n))

-- a module entry that an enumeration met
module _ (W A : List ℕ) (l : Layout) (m : ℕ) {k j h : ℕ}
    (x : Meets (is_module_entry (snap_of W A l) m) scope_at scope_size W (scope_base l) l.scopes k j h)
  where
    -- it is the module's
    pub met_follows : Follows (key_of W l Modules) m (j + 1)
    met_follows _ =
        let e : j + 1 - 1 ≡ j = omega arith in
        ap (key_of W l Modules) e ∙ ap (λ i. (scope_at W i).owner) (sym x.head) ∙ eqb-true _ _ (and_left (eqb (scope_at W h).owner m) _ x.passes)

    -- and its module is there
    pub met_below : Reads W A l → {t : ℕ} → t ≡ entry_module (snap_of W A l) (scope_at W h) → t < l.modules
    met_below r e =
        let s = scope_at W h in
        let a = and_right (eqb s.owner m) (eqb s.ns 0 && eqb (definition_of (snap_of W A l) s.definition).kind 1) x.passes in
        let b = and_right (eqb s.ns 0) (eqb (definition_of (snap_of W A l) s.definition).kind 1) a in
        rw e (module_known W A l r s.definition (module_meets W A l r x).definition (eqb-true _ _ b))
