-- Tests of a definition's kind, by its number.
use Prim.Native.Nat.{ℕ, zero, suc}
use mathlib.Core.Path.{◌≡◌, refl, sym, ap, ◌∙◌}
use mathlib.Core.Bool.{Bool, true, false, not}
use native.Mathlib.Omega.{arith}
use lib.Dec.{eqb}
use borrow.Author.Tests.{eqb-true, eqb-false, not-true, not-false}
use Rattle.std.specs.Prelude.{Option, Some}
use Rattle.std.specs.Option.{option_eq}
use Rattle.snapshot.specs.DefinitionKinds.{definition_kind_number, definition_kind_of}
use Rattle.snapshot.specs.contracts.ids.DefinitionKindPartialEq.TheImpl.{eq-value}
use Rattle.snapshot.specs.declared.ids.DefinitionKind.{DefinitionKind}
use Rattle.snapshot.specs.declared.ids.DefinitionKind.TheVariants.{Module, Variant, Builtin, Other, Macro}

same : (a b : DefinitionKind) → eq-value.it a b ≡ eqb (definition_kind_number a) (definition_kind_number b)
same Module Module = refl
same Module Variant = refl
same Module Builtin = refl
same Module Other = refl
same Module Macro = refl
same Variant Module = refl
same Variant Variant = refl
same Variant Builtin = refl
same Variant Other = refl
same Variant Macro = refl
same Builtin Module = refl
same Builtin Variant = refl
same Builtin Builtin = refl
same Builtin Other = refl
same Builtin Macro = refl
same Other Module = refl
same Other Variant = refl
same Other Builtin = refl
same Other Other = refl
same Other Macro = refl
same Macro Module = refl
same Macro Variant = refl
same Macro Builtin = refl
same Macro Other = refl
same Macro Macro = refl

past : (k : DefinitionKind) (n : ℕ) → false ≡ eqb (suc (suc (suc (suc (suc (suc n)))))) (definition_kind_number k)
past Module n = grind arith
past Variant n = grind arith
past Builtin n = grind arith
past Other n = grind arith
past Macro n = grind arith

tested : (k : DefinitionKind) (n : ℕ) → option_eq eq-value.it (definition_kind_of n) (Some k) ≡ eqb n (definition_kind_number k)
tested Module zero = refl
tested Variant zero = refl
tested Builtin zero = refl
tested Other zero = refl
tested Macro zero = refl
tested k (suc zero) = same Module k
tested k (suc (suc zero)) = same Variant k
tested k (suc (suc (suc zero))) = same Builtin k
tested k (suc (suc (suc (suc zero)))) = same Other k
tested k (suc (suc (suc (suc (suc zero))))) = same Macro k
tested k (suc (suc (suc (suc (suc (suc n)))))) = past k n

-- what `==` and `!=` say

pub kind_is : (k : DefinitionKind) (n : ℕ) {o : Option DefinitionKind} {b : Bool}
    → b ≡ option_eq eq-value.it o (Some k) → o ≡ definition_kind_of n → b ≡ eqb n (definition_kind_number k)
kind_is k n q e = q ∙ ap (λ x. option_eq eq-value.it x (Some k)) e ∙ tested k n

pub kind_apart : (k : DefinitionKind) (n : ℕ) {o : Option DefinitionKind} {b : Bool}
    → b ≡ not (option_eq eq-value.it o (Some k)) → o ≡ definition_kind_of n → b ≡ not (eqb n (definition_kind_number k))
kind_apart k n q e = q ∙ ap not (kind_is k n refl e)

module _ (k : DefinitionKind) (n : ℕ) {o : Option DefinitionKind} {b : Bool} where
  pub kind_yes : b ≡ option_eq eq-value.it o (Some k) → o ≡ definition_kind_of n → b ≡ true → n ≡ definition_kind_number k
  kind_yes q e h = eqb-true _ _ (sym (kind_is k n q e) ∙ h)

  pub kind_no : b ≡ option_eq eq-value.it o (Some k) → o ≡ definition_kind_of n → b ≡ false → n ≡ definition_kind_number k → ⊥
  kind_no q e h = eqb-false _ _ (sym (kind_is k n q e) ∙ h)

  pub kind_not : b ≡ not (option_eq eq-value.it o (Some k)) → o ≡ definition_kind_of n → b ≡ true → n ≡ definition_kind_number k → ⊥
  kind_not q e h = eqb-false _ _ (not-true _ (sym (kind_apart k n q e) ∙ h))

  pub kind_so : b ≡ not (option_eq eq-value.it o (Some k)) → o ≡ definition_kind_of n → b ≡ false → n ≡ definition_kind_number k
  kind_so q e h = eqb-true _ _ (not-false _ (sym (kind_apart k n q e) ∙ h))
