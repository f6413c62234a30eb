-- What is found in a list, and how many numbers pass a test.
use Prim.Native.Nat.{ℕ, zero, suc, ◌≤◌, ◌<◌}
use mathlib.Core.Path.{◌≡◌, sym, ap, ◌∙◌}
use mathlib.Core.List.{List, [], ◌∷◌, map, Memᴰ}
use mathlib.Core.Bool.{Bool, true, false}
use Rattle.std.specs.Prelude.{None, Some}
use native.Mathlib.Omega.{arith}
use borrow.Author.Tests.{eqb-true, eqb-false}
use lib.Dec.{eqb}
use Rattle.accept.proofs.Accepted.{by_test}
use Rattle.hir_def.specs.Finds.{first_of}
use Rattle.nameable.specs.Queue.{passing}

pub none_some : {A : Type 0} {x : A} → None ≡ Some x → ⊥
none_some e = let z : ◌≡◌ {A = ℕ} 0 1 = cc in omega arith

module _ {A : Type 0} (p : A → Bool) where
  pub first_hit : (x : A) (xs : List A) → p x ≡ true → first_of p (x ∷ xs) ≡ Some x
  unfolding first_of
  first_hit x xs e = rw (first_of, e)

  pub first_miss : (x : A) (xs : List A) → p x ≡ false → first_of p (x ∷ xs) ≡ first_of p xs
  unfolding first_of
  first_miss x xs e = rw (first_of, e)

  -- what is found stands there, and passes
  pub first_found_lem : (xs : List A) (y : A) → first_of p xs ≡ Some y → Memᴰ y xs × (p y ≡ true)
  unfolding first_of
  first_found_lem [] y e = absurd (none_some e)
  first_found_lem (x ∷ xs) y e =
      by_test (p x)
      (λ t. let f : Some x ≡ Some y = sym (first_hit x xs t) ∙ e in let same : y ≡ x = cc in (Memᴰ.head same, ap p same ∙ t))
      (λ t. let f = first_found_lem xs y (sym (first_miss x xs t) ∙ e) in (Memᴰ.tail f.0, f.1))

  -- where one passes, one is found
  pub first_some_lem : {y : A} {xs : List A} → Memᴰ y xs → p y ≡ true → (z : A) × (first_of p xs ≡ Some z)
  first_some_lem (Memᴰ.head {x = x} {xs = xs} e) t = (x, first_hit x xs (ap p (sym e) ∙ t))
  first_some_lem (Memᴰ.tail {x = x} {xs = xs} m) t =
      by_test (p x) (λ h. (x, first_hit x xs h)) (λ h. let f = first_some_lem m t in (f.0, first_miss x xs h ∙ f.1))

pub map_in_lem : {A B : Type 0} (f : A → B) {x : A} {xs : List A} → Memᴰ x xs → Memᴰ (f x) (map f xs)
map_in_lem f (Memᴰ.head e) = Memᴰ.head (ap f e)
map_in_lem f (Memᴰ.tail m) = Memᴰ.tail (map_in_lem f m)

-- How many numbers below n pass a test.

module _ (p : ℕ → Bool) (n : ℕ) where
  pass_yes : p n ≡ true → passing p (suc n) ≡ suc (passing p n)
  unfolding passing
  pass_yes e = rw (passing, e)

  pass_no : p n ≡ false → passing p (suc n) ≡ passing p n
  unfolding passing
  pass_no e = rw (passing, e)

pub passing_few : (p : ℕ → Bool) (n : ℕ) → passing p n ≤ n
unfolding passing
passing_few p zero = omega arith
passing_few p (suc n) =
    by_test (p n) (λ e. omega (arith, pass_yes p n e, passing_few p n)) (λ e. omega (arith, pass_no p n e, passing_few p n))

-- q passes where p does
module _ (p q : ℕ → Bool) (more : (m : ℕ) → p m ≡ true → q m ≡ true) where
  pub passing_more : (n : ℕ) → passing p n ≤ passing q n
  unfolding passing
  passing_more zero = omega arith
  passing_more (suc n) =
      by_test (p n)
      (λ e. omega (arith, pass_yes p n e, pass_yes q n (more n e), passing_more n))
      (λ e.
      by_test (q n)
      (λ f. omega (arith, pass_no p n e, pass_yes q n f, passing_more n))
      (λ f. omega (arith, pass_no p n e, pass_no q n f, passing_more n)))

  -- and at a number where p doesn't
  pub passing_less : (t n : ℕ) → t < n → p t ≡ false → q t ≡ true → passing p n < passing q n
  passing_less t zero h e f = absurd (omega arith)
  passing_less t (suc n) h e f =
      by_test (eqb n t)
      (λ k.
      let same : n ≡ t = eqb-true n t k in
      omega (arith, pass_no p n (ap p same ∙ e), pass_yes q n (ap q same ∙ f), passing_more n))
      (λ k.
      let other : n ≡ t → ⊥ = eqb-false n t k in
      let l : passing p n < passing q n = passing_less t n (omega (arith, other)) e f in
      by_test (p n)
      (λ x. omega (arith, pass_yes p n x, pass_yes q n (more n x)))
      (λ x.
      by_test (q n) (λ y. omega (arith, pass_no p n x, pass_yes q n y)) (λ y. omega (arith, pass_no p n x, pass_no q n y))))
