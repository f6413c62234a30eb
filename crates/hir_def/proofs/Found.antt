-- What is found in a list has what every element has; how many elements are read to find it.
use mathlib.Core.Path.{◌≡◌, refl, subst, ap, ◌∙◌}
use Prim.Native.Nat.{ℕ, suc, ◌+◌}
use native.Mathlib.Omega.{arith}
use mathlib.Core.List.{List, [], ◌∷◌}
use mathlib.Core.Bool.{Bool, true, false}
use Rattle.std.specs.Prelude.{None, Some}
use lib.ListN.{length, get_or}
use Rattle.accept.specs.Valid.{Each, more}
use Rattle.accept.proofs.Accepted.{by_test}
use Rattle.hir_def.specs.Finds.{first_of, reads_of, place_of, select}

pub each_first : {A : Type 0} {P : A → Type 0} {xs : List A} (p : A → Bool) (y : A) → Each P xs → first_of p xs ≡ Some y → P y
unfolding first_of
each_first p y Each.none e = let z : ◌≡◌ {A = ℕ} 0 1 = cc in absurd (omega arith)
each_first {P = P} p y (more {x = x} q h) e =
    by_test (p x)
    (λ t. let f : Some x ≡ Some y = rw (t, first_of) at e in let same : x ≡ y = cc in subst P same q)
    (λ t. each_first p y h (rw (t, first_of) at e))

pub each_select : {A : Type 0} {P : A → Type 0} {xs : List A} (p : A → Bool) → Each P xs → Each P (select p xs)
unfolding select
each_select p Each.none = Each.none
each_select p (more {x = x} q h) =
    by_test (p x) (λ t. rw (t, select) (more q (each_select p h))) (λ t. rw (t, select) (each_select p h))

-- an element is found: it stands at the place of the first that passes, and those up to and with that place are read
pub record ReadTo {A : Type 0} (p : A → Bool) (xs : List A) (y d : A) : Type 0 where
  pub at : ℕ
  pub first : (k : ℕ) → place_of p k xs ≡ k + at
  pub there : get_or xs at d ≡ y
  pub read : reads_of p xs ≡ at + 1

pub reads_found : {A : Type 0} (p : A → Bool) (xs : List A) (y d : A) → first_of p xs ≡ Some y → ReadTo p xs y d
unfolding first_of reads_of place_of
reads_found p [] y d e = let z : ◌≡◌ {A = ℕ} 0 1 = cc in absurd (omega arith)
reads_found p (x ∷ xs) y d e =
    by_test (p x)
    (λ t.
    let f : Some x ≡ Some y = rw (t, first_of) at e in
    record { at = 0; first = λ k. rw (t, place_of) (omega arith); there = cc; read = rw (t, reads_of) })
    (λ t.
    let f = reads_found p xs y d (rw (t, first_of) at e) in
    record {
      at = suc f.at;
      first = λ k. rw (t, place_of) (f.first (k + 1) ∙ omega arith);
      there = f.there;
      read = rw (t, reads_of) (ap (λ n. n + 1) f.read ∙ omega arith);
    })

-- none is found: all are read
pub reads_all : {A : Type 0} (p : A → Bool) (xs : List A) → first_of p xs ≡ None → reads_of p xs ≡ length xs
unfolding first_of reads_of
reads_all p [] e = refl
reads_all p (x ∷ xs) e =
    by_test (p x)
    (λ t. let f : Some x ≡ None = rw (t, first_of) at e in let z : ◌≡◌ {A = ℕ} 0 1 = cc in absurd (omega arith))
    (λ t. rw (t, reads_of) (ap (λ n. n + 1) (reads_all p xs (rw (t, first_of) at e)) ∙ omega arith))

-- what is found passes
pub first_passes : {A : Type 0} (p : A → Bool) (xs : List A) (y : A) → first_of p xs ≡ Some y → p y ≡ true
unfolding first_of
first_passes p [] y e = let z : ◌≡◌ {A = ℕ} 0 1 = cc in absurd (omega arith)
first_passes p (x ∷ xs) y e =
    by_test (p x)
    (λ t. let f : Some x ≡ Some y = rw (t, first_of) at e in let same : x ≡ y = cc in subst (λ z. p z ≡ true) same t)
    (λ t. first_passes p xs y (rw (t, first_of) at e))

-- none is found: none passes
pub none_passes : {A : Type 0} (p : A → Bool) (xs : List A) → first_of p xs ≡ None → Each (λ y. p y ≡ false) xs
unfolding first_of
none_passes p [] e = Each.none
none_passes p (x ∷ xs) e =
    by_test (p x)
    (λ t. let f : Some x ≡ None = rw (t, first_of) at e in let z : ◌≡◌ {A = ℕ} 0 1 = cc in absurd (omega arith))
    (λ t. more t (none_passes p xs (rw (t, first_of) at e)))
