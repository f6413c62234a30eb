-- Ways of falling steps, as relations without a count of steps.
use mathlib.Core.Path.{◌≡◌, sym, ◌∙◌, subst}
use mathlib.Core.Bool.{true, false≢true}
use mathlib.Core.Logic.{⊎_elim}
use Prim.Native.Nat.{ℕ, zero, suc, ◌<◌}
use native.Mathlib.Omega.{arith}
use lib.Dec.{eqb}
use borrow.Author.Tests.{eqb-true, eq-eqb}
use Rattle.std.proofs.lemmas.Bool.{or_cases, or_right}
use Rattle.module_tree.specs.rules.Visibility.{last_or, last, met_or, met}
use Rattle.module_tree.specs.Differs.{Meets, now, on}
use Rattle.module_tree.proofs.Laws.{by_number, Falls, last_more, met_more}

module _ (step : ℕ → ℕ) (n : ℕ) (falls : Falls step n) where
  pub last_end : (t : ℕ) → t < n → step t ≡ 0 → last step t ≡ t
  unfolding last_or
  last_end t r z = last_more step n falls t r ∙ rw z

  pub last_on : (t b : ℕ) → t < n → step t ≡ suc b → last step t ≡ last step b
  unfolding last_or
  last_on t b r q = last_more step n falls t r ∙ rw q

  met_meets' : (d v t : ℕ) → v < d → v < n → met step v t ≡ true → Meets step t v
  unfolding met_or
  met_meets' zero v t h r e = absurd (omega arith)
  met_meets' (suc d) v t h r e =
      ⊎_elim (λ p. now (eqb-true v t p))
      (λ p. by_number (step v) (λ z. absurd (false≢true (rw z at p)))
      (λ w q. let f = falls v w r q in on q (met_meets' d w t (omega arith) (omega arith) (rw q at p))))
      (or_cases (eqb v t) (met_or (λ w. met step w t) (step v)) (sym (met_more step n falls v t r) ∙ e))

  pub met_meets : (v t : ℕ) → v < n → met step v t ≡ true → Meets step t v
  met_meets v t r e = met_meets' (suc v) v t (omega arith) r e

  meets_met' : (t v : ℕ) → v < n → Meets step t v → met step v t ≡ true
  unfolding met_or
  meets_met' t v r (now q) = met_more step n falls v t r ∙ rw (eq-eqb v t q)
  meets_met' t v r (on {w = w} q m) =
      let f = falls v w r q in
      met_more step n falls v t r
      ∙ or_right (eqb v t) (met_or (λ w. met step w t) (step v)) (rw q (meets_met' t w (omega arith) m))

  pub meets_met : (v t : ℕ) → v < n → Meets step t v → met step v t ≡ true
  meets_met v t = meets_met' t v

  meets_below' : (t v : ℕ) → v < n → Meets step t v → t < n
  meets_below' t v r (now q) = rw (← q) r
  meets_below' t v r (on {w = w} q m) = let f = falls v w r q in meets_below' t w (omega arith) m

  pub meets_below : (v t : ℕ) → v < n → Meets step t v → t < n
  meets_below v t = meets_below' t v

pub meets_trans : {step : ℕ → ℕ} {t u v : ℕ} → Meets step u v → Meets step t u → Meets step t v
meets_trans {step} {t} {u} (now q) m = subst (λ (x : ℕ). Meets step t x) (sym q) m
meets_trans (on q n) m = on q (meets_trans n m)
