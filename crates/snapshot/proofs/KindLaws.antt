-- What a kind says of its number.
use Prim.Native.Nat.{ℕ, zero, suc, ◌≤◌}
use mathlib.Core.Path.{◌≡◌, refl, sym}
use mathlib.Core.Bool.{false, not, ◌&&◌}
use native.Mathlib.Omega.{arith}
use lib.Dec.{eqb, leb}
use borrow.Author.Tests.{ne_eqb}
use Rattle.std.specs.Prelude.{Some, None, MatchOption, is_some}
use Rattle.std.proofs.lemmas.Option.{MatchOption-at_some, MatchOption-at_none}
use Rattle.snapshot.specs.DefinitionKinds.{definition_kind_number, definition_kind_of}
use Rattle.snapshot.specs.Kinds.{kind_number, kind_with}
use Rattle.snapshot.specs.Visibilities.{visibility_of}
use Rattle.snapshot.specs.declared.ids.DefinitionKind.{DefinitionKind}
use Rattle.snapshot.specs.declared.ids.Visibility.TheVariants.{InModule}
use Rattle.snapshot.specs.declared.kind.Kind.{Kind}

-- the number of the kind that is there, and none beyond them

definition_numbered : (n : ℕ) → MatchOption (definition_kind_of n) (1 ≤ n → n ≤ 5 → ⊥) (λ k. definition_kind_number k ≡ n)
definition_numbered zero = λ h g. omega (arith, h)
definition_numbered (suc zero) = refl
definition_numbered (suc (suc zero)) = refl
definition_numbered (suc (suc (suc zero))) = refl
definition_numbered (suc (suc (suc (suc zero)))) = refl
definition_numbered (suc (suc (suc (suc (suc zero))))) = refl
definition_numbered (suc (suc (suc (suc (suc (suc n)))))) = λ h g. omega (arith, g)

pub definition_known : (n : ℕ) {k : DefinitionKind} → definition_kind_of n ≡ Some k → n ≡ definition_kind_number k
definition_known n e = sym (MatchOption-at_some _ _ _ e (definition_numbered n))

-- there is a kind for the numbers from 1 to 5
pub definition_there : (n : ℕ) → is_some (definition_kind_of n) ≡ leb 1 n && leb n 5
definition_there zero = refl
definition_there (suc zero) = refl
definition_there (suc (suc zero)) = refl
definition_there (suc (suc (suc zero))) = refl
definition_there (suc (suc (suc (suc zero)))) = refl
definition_there (suc (suc (suc (suc (suc zero))))) = refl
definition_there (suc (suc (suc (suc (suc (suc n)))))) = grind arith

-- The kinds of records: the number of one that is there, and none beyond them

kind_numbered : (n : ℕ) → MatchOption (kind_with n) (leb 1 n && leb n 13 && not (eqb n 12) ≡ false) (λ k. kind_number k ≡ n)
kind_numbered zero = refl
kind_numbered (suc zero) = refl
kind_numbered (suc (suc zero)) = refl
kind_numbered (suc (suc (suc zero))) = refl
kind_numbered (suc (suc (suc (suc zero)))) = refl
kind_numbered (suc (suc (suc (suc (suc zero))))) = refl
kind_numbered (suc (suc (suc (suc (suc (suc zero)))))) = refl
kind_numbered (suc (suc (suc (suc (suc (suc (suc zero))))))) = refl
kind_numbered (suc (suc (suc (suc (suc (suc (suc (suc zero)))))))) = refl
kind_numbered (suc (suc (suc (suc (suc (suc (suc (suc (suc zero))))))))) = refl
kind_numbered (suc (suc (suc (suc (suc (suc (suc (suc (suc (suc zero)))))))))) = refl
kind_numbered (suc (suc (suc (suc (suc (suc (suc (suc (suc (suc (suc zero))))))))))) = refl
kind_numbered (suc (suc (suc (suc (suc (suc (suc (suc (suc (suc (suc (suc zero)))))))))))) = refl
kind_numbered (suc (suc (suc (suc (suc (suc (suc (suc (suc (suc (suc (suc (suc zero))))))))))))) = refl
kind_numbered (suc (suc (suc (suc (suc (suc (suc (suc (suc (suc (suc (suc (suc (suc n)))))))))))))) = grind arith

pub kind_known : (n : ℕ) {k : Kind} → kind_with n ≡ Some k → n ≡ kind_number k
kind_known n e = sym (MatchOption-at_some _ _ _ e (kind_numbered n))

pub kind_unknown : (n : ℕ) → kind_with n ≡ None → leb 1 n && leb n 13 && not (eqb n 12) ≡ false
kind_unknown n e = MatchOption-at_none _ _ e (kind_numbered n)

-- a visibility with a kind beyond them is a module's
pub other_visibility : (k n : ℕ) → visibility_of (suc (suc (suc (suc k)))) n ≡ InModule (record { 0 = n })
other_visibility k n = rw (
  visibility_of,
  ne_eqb (suc (suc (suc (suc k)))) 0 (λ e. omega arith),
  ne_eqb (suc (suc (suc (suc k)))) 1 (λ e. omega arith),
  ne_eqb (suc (suc (suc (suc k)))) 3 (λ e. omega arith),
)
