-- The number of steps hidden: where steps fall, each chain is its step and the chain from there.
use mathlib.Core.Path.{◌≡◌, refl, ap, sym}
use Prim.Native.Nat.{ℕ, zero, suc, ◌≤◌, ◌<◌}
use native.Mathlib.Omega.{arith}
use mathlib.Core.Bool.{Bool, ◌||◌, or-false}
use Rattle.std.specs.Prelude.{Option, None, Some}
use lib.Dec.{eqb}
use Rattle.module_tree.specs.rules.Visibility.{last_or, last_to, last, met_or, met_to, met}

pub by_number : {C : Type 0} (k : ℕ) → (k ≡ 0 → C) → ((p : ℕ) → k ≡ suc p → C) → C
by_number zero z f = z refl
by_number (suc p) z f = f p refl

pub by_option : {A C : Type 0} (o : Option A) → (o ≡ None → C) → ((x : A) → o ≡ Some x → C) → C
by_option None f g = f refl
by_option (Some x) f g = g x refl

-- Steps go to a smaller number +1, or end, from every number below n.
abbrev pub Falls : (ℕ → ℕ) → ℕ → Type 0
Falls step n = (v w : ℕ) → v < n → step v ≡ suc w → w < v

module _ (step : ℕ → ℕ) (n : ℕ) (falls : Falls step n) where
  last_to_same : (d e t : ℕ) → t < n → t ≤ d → t ≤ e → last_to step d t ≡ last_to step e t
  unfolding last_to last_or
  last_to_same zero zero t r h k = refl
  last_to_same zero (suc e) t r h k = by_number (step t) (λ z. rw z) (λ b q. let f = falls t b r q in absurd (omega arith))
  last_to_same (suc d) zero t r h k = by_number (step t) (λ z. rw z) (λ b q. let f = falls t b r q in absurd (omega arith))
  last_to_same (suc d) (suc e) t r h k =
      by_number (step t) (λ z. rw z)
      (λ b q. let f = falls t b r q in rw q (last_to_same d e b (omega arith) (omega arith) (omega arith)))

  pub last_more : (t : ℕ) → t < n → last step t ≡ last_or (last step) t (step t)
  unfolding last last_to last_or
  last_more zero r = by_number (step 0) (λ z. rw z) (λ b q. let f = falls 0 b r q in absurd (omega arith))
  last_more (suc t) r =
      by_number (step (suc t)) (λ z. rw z)
      (λ b q. let f = falls (suc t) b r q in rw q (last_to_same t b b (omega arith) (omega arith) (omega arith)))

  met_to_same : (d e t v : ℕ) → v < n → v ≤ d → v ≤ e → met_to step d t v ≡ met_to step e t v
  unfolding met_to met_or
  met_to_same zero zero t v r h k = refl
  met_to_same zero (suc e) t v r h k =
      by_number (step v) (λ z. rw z (sym (or-false (eqb v t)))) (λ b q. let f = falls v b r q in absurd (omega arith))
  met_to_same (suc d) zero t v r h k =
      by_number (step v) (λ z. rw z (or-false (eqb v t))) (λ b q. let f = falls v b r q in absurd (omega arith))
  met_to_same (suc d) (suc e) t v r h k =
      by_number (step v) (λ z. rw z)
      (λ b q. let f = falls v b r q in rw q (ap (λ (z : Bool). eqb v t || z) (met_to_same d e t b (omega arith) (omega arith) (omega arith))))

  pub met_more : (v t : ℕ) → v < n → met step v t ≡ (eqb v t || met_or (λ w. met step w t) (step v))
  unfolding met met_to met_or
  met_more zero t r = by_number (step 0) (λ z. rw z (sym (or-false (eqb 0 t)))) (λ b q. let f = falls 0 b r q in absurd (omega arith))
  met_more (suc v) t r =
      by_number (step (suc v)) (λ z. rw z)
      (λ b q. let f = falls (suc v) b r q in rw q
      (ap (λ (z : Bool). eqb (suc v) t || z) (met_to_same v b t b (omega arith) (omega arith) (omega arith))))
