-- The number of steps hidden: where steps fall, a list of steps is its first and the list from there.
use mathlib.Core.Path.{◌≡◌, refl, ap}
use Prim.Native.Nat.{ℕ, zero, suc, ◌≤◌, ◌<◌}
use native.Mathlib.Omega.{arith}
use mathlib.Core.List.{List, ◌∷◌}
use Rattle.hir_def.specs.Nameres.{steps_or, steps_to, steps}
pub use Rattle.module_tree.proofs.Laws.{by_number, Falls, last_more, met_more}

module _ (step : ℕ → ℕ) (n : ℕ) (falls : Falls step n) where
  steps_to_same : (d e m : ℕ) → m < n → m ≤ d → m ≤ e → steps_to step d m ≡ steps_to step e m
  unfolding steps_to steps_or
  steps_to_same zero zero m r h k = refl
  steps_to_same zero (suc e) m r h k = by_number (step m) (λ z. rw z) (λ b q. let f = falls m b r q in absurd (omega arith))
  steps_to_same (suc d) zero m r h k = by_number (step m) (λ z. rw z) (λ b q. let f = falls m b r q in absurd (omega arith))
  steps_to_same (suc d) (suc e) m r h k =
      by_number (step m) (λ z. rw z)
      (λ b q. let f = falls m b r q in rw q (ap {B = List ℕ} (λ (z : List ℕ). b ∷ z) (steps_to_same d e b (omega arith) (omega arith) (omega arith))))

  pub steps_more : (m : ℕ) → m < n → steps step m ≡ steps_or (steps step) (step m)
  unfolding steps steps_to steps_or
  steps_more zero r = by_number (step 0) (λ z. rw z) (λ b q. let f = falls 0 b r q in absurd (omega arith))
  steps_more (suc m) r =
      by_number (step (suc m)) (λ z. rw z)
      (λ b q. let f = falls (suc m) b r q in rw q (ap {B = List ℕ} (λ (z : List ℕ). b ∷ z)
      (steps_to_same m b b (omega arith) (omega arith) (omega arith))))
