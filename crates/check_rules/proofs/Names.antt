-- Names with one text are one record.
use mathlib.Core.Path.{◌≡◌, refl, ap₂}
use mathlib.Core.List.{List, [], ◌∷◌}
use mathlib.Core.Bool.{true, false≢true}
use Prim.Native.Nat.{ℕ}
use lib.Dec.{eqb}
use borrow.Author.Tests.{eqb-true}
use Rattle.std.proofs.lemmas.Bool.{and_parts}
use Rattle.snapshot.specs.Lists.{eq_list}
use Rattle.snapshot.specs.Records.{Name}
use Rattle.check_rules.specs.Tests.{same_name}

pub eq_lists : (xs ys : List ℕ) → eq_list xs ys ≡ true → xs ≡ ys
unfolding eq_list
eq_lists [] [] e = refl
eq_lists [] (y ∷ ys) e = absurd (false≢true e)
eq_lists (x ∷ xs) [] e = absurd (false≢true e)
eq_lists (x ∷ xs) (y ∷ ys) e =
    let p = and_parts (eqb x y) (eq_list xs ys) e in
    ap₂ (λ a b. a ∷ b) (eqb-true x y p.0) (eq_lists xs ys p.1)

pub name_equal : (x y : Name) → same_name x y ≡ true → x ≡ y
name_equal x y e =
    let p = and_parts (eqb x.bytes y.bytes) (eq_list x.text y.text) e in
    let a = eqb-true x.bytes y.bytes p.0 in
    let b = eq_lists x.text y.text p.1 in
    λ i. record { bytes = a i; text = b i }
