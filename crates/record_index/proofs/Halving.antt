-- The laws of halves of words.
use Prim.Native.Nat.{ℕ, ◌+◌, ◌*◌, ◌/◌, ◌%◌, ◌≤◌, ◌<◌}
use mathlib.Core.Path.{◌≡◌, refl, sym, ap, ◌∙◌}
use mathlib.Core.List.{List}
use mathlib.Core.Bool.{Bool, true, false}
use native.Mathlib.Omega.{arith}
use lib.Dec.{eqb}
use lib.ListN.{length, get_or, set}
use lib.Seq.{get_or-set_same, get_or-set_other, take-set-le}
use borrow.Author.Tests.{eqb-true, eqb-false, ne_eqb}
use Rattle.snapshot.specs.Layouts.{row_words}
use Rattle.record_index.specs.Halves.{half_of, half_at}
use Rattle.record_index.specs.Post.{Put}

by_test : {C : Type 0} (b : Bool) → (b ≡ true → C) → (b ≡ false → C) → C
by_test true y n = y refl
by_test false y n = n refl

-- two numbers are the same, or not
pub by_same : {C : Type 0} (a b : ℕ) → (a ≡ b → C) → ((a ≡ b → ⊥) → C) → C
by_same a b f g = by_test (eqb a b) (λ t. f (eqb-true a b t)) (λ t. g (eqb-false a b t))

pub first_half : {p : ℕ} (w : ℕ) → p ≡ 0 → w % 65536 ≡ half_of p w
unfolding half_of
first_half w e = sym (ap (λ z. half_of z w) e)

pub second_half : {p : ℕ} (w : ℕ) → (p ≡ 0 → ⊥) → w / 65536 % 65536 ≡ half_of p w
unfolding half_of
second_half {p} w n = sym (ap (λ (b : Bool). elim b [ true ↦ w % 65536 | false ↦ w / 65536 % 65536 ]) (ne_eqb p 0 n))

-- words that are the same have the same halves
pub half_same : (A B : List ℕ) (i : ℕ) → get_or B (i / 2) 0 ≡ get_or A (i / 2) 0 → half_at B i ≡ half_at A i
half_same A B i e = ap (half_of (i % 2)) e

-- one half of a word is written
module _ (A : List ℕ) (i v : ℕ) (from : 2 * row_words ≤ i) (room : i / 2 < length A) (small : v < 65536) where
  module _ (x : ℕ) (its : half_of (i % 2) x ≡ v) (other : (p : ℕ) → (p ≡ i % 2 → ⊥) → p < 2 → half_of p x ≡ half_of p (get_or A (i / 2) 0)) where
    pub put : Put A i v (set A (i / 2) x)
    put =
        record {
          here = ap (half_of (i % 2)) (get_or-set_same A (i / 2) x 0 room) ∙ its;
          others = λ j n.
              by_same (j / 2) (i / 2)
              (λ e.
              ap (λ k. half_of (j % 2) (get_or (set A (i / 2) x) k 0)) e
              ∙ ap (half_of (j % 2)) (get_or-set_same A (i / 2) x 0 room)
              ∙ other (j % 2) (λ q. n (omega arith)) (omega arith)
              ∙ ap (λ k. half_of (j % 2) (get_or A k 0)) (sym e))
              (λ q. half_same A (set A (i / 2) x) j (get_or-set_other A (i / 2) (j / 2) x 0 q));
          below = take-set-le row_words A (i / 2) x (omega arith);
        }

  pub put_first : {w : ℕ} → w ≡ get_or A (i / 2) 0 → i % 2 ≡ 0 → Put A i v (set A (i / 2) (w / 65536 % 65536 * 65536 + v))
  put_first {w} e q =
      put (w / 65536 % 65536 * 65536 + v) (sym (first_half (w / 65536 % 65536 * 65536 + v) q) ∙ omega arith)
      (λ p n s.
      let m : p ≡ 0 → ⊥ = λ z. n (omega arith) in
      sym (second_half (w / 65536 % 65536 * 65536 + v) m) ∙ omega arith ∙ second_half w m ∙ ap (half_of p) e)

  pub put_second : {w : ℕ} → w ≡ get_or A (i / 2) 0 → (i % 2 ≡ 0 → ⊥) → Put A i v (set A (i / 2) (v * 65536 + w % 65536))
  put_second {w} e q =
      put (v * 65536 + w % 65536) (sym (second_half (v * 65536 + w % 65536) q) ∙ omega arith)
      (λ p n s.
      let m : p ≡ 0 = omega (arith, q, n) in
      sym (first_half (v * 65536 + w % 65536) m) ∙ omega arith ∙ first_half w m ∙ ap (half_of p) e)
