-- A module and those that falling steps lead to: the first answer among them, and whether one passes a test.
use Prim.Native.Nat.{ℕ, suc, ◌<◌}
use mathlib.Core.Path.{◌≡◌, sym, ◌∙◌, ap}
use mathlib.Core.List.{[], ◌∷◌}
use mathlib.Core.Bool.{Bool, true, false}
use Rattle.std.specs.Prelude.{Option, None, Some}
use Rattle.snapshot.specs.Lists.{any}
use Rattle.hir_def.specs.Finds.{first_some}
use Rattle.hir_def.specs.Nameres.{steps_or, steps}
use Rattle.hir_def.proofs.Laws.{Falls, steps_more}

-- A module and those that falling steps lead to.
module _ (step : ℕ → ℕ) (n : ℕ) (falls : Falls step n) (m : ℕ) (h : m < n) where
  around_more : m ∷ steps step m ≡ m ∷ steps_or (steps step) (step m)
  around_more = ap (λ x. m ∷ x) (steps_more step n falls m h)

  around_last : step m ≡ 0 → m ∷ steps step m ≡ m ∷ []
  unfolding steps_or
  around_last e = around_more ∙ ap (λ b. m ∷ steps_or (steps step) b) e

  around_on : (p : ℕ) → step m ≡ suc p → m ∷ steps step m ≡ m ∷ (p ∷ steps step p)
  unfolding steps_or
  around_on p e = around_more ∙ ap (λ b. m ∷ steps_or (steps step) b) e

  -- the first answer
  module _ {B : Type 0} (f : ℕ → Option B) where
    pub first_here : {y : B} → f m ≡ Some y → Some y ≡ first_some f (m ∷ steps step m)
    unfolding first_some
    first_here e = rw (first_some, e)

    pub first_end : f m ≡ None → step m ≡ 0 → None ≡ first_some f (m ∷ steps step m)
    unfolding first_some
    first_end e z = sym (ap (first_some f) (around_last z) ∙ rw (first_some, e))

    pub first_on : f m ≡ None → (p : ℕ) → step m ≡ suc p → first_some f (m ∷ steps step m) ≡ first_some f (p ∷ steps step p)
    unfolding first_some
    first_on e p q = ap (first_some f) (around_on p q) ∙ rw (first_some, e)

  -- some answer
  module _ (p : ℕ → Bool) where
    pub any_here : p m ≡ true → true ≡ any p (m ∷ steps step m)
    unfolding any
    any_here e = rw (any, e)

    pub any_end : p m ≡ false → step m ≡ 0 → false ≡ any p (m ∷ steps step m)
    unfolding any
    any_end e z = sym (ap (any p) (around_last z) ∙ rw (any, e))

    pub any_on : p m ≡ false → (q : ℕ) → step m ≡ suc q → any p (m ∷ steps step m) ≡ any p (q ∷ steps step q)
    unfolding any
    any_on e q r = ap (any p) (around_on q r) ∙ rw (any, e)
