-- A test of the levels, level by level.
use Prim.Native.Nat.{ℕ, zero, suc, ◌+◌, ◌-◌, ◌<◌, ◌≤◌}
use mathlib.Core.Path.{◌≡◌, refl, sym, ap, subst, ◌∙◌}
use mathlib.Core.List.{List, [], ◌∷◌}
use mathlib.Core.Bool.{Bool, true, false, ◌||◌, ◌&&◌}
use native.Mathlib.Omega.{arith}
use lib.Dec.{eqb}
use lib.ListN.{get_or}
use Rattle.snapshot.specs.Lists.{any}
use Rattle.accept.proofs.Bools.{or_none_lem}
use Rattle.hir_def.specs.Items.{same_item}
use Rattle.hir_def.specs.declared.Item.{Item}
use Rattle.find_path_spec.specs.Walk.{Level}
use Rattle.find_path_levels.specs.Levels.{Small, code_of, item_at, run_at, levels_of}
use Rattle.find_path_levels.specs.Each.{ends_at, AnyBy}
use Rattle.find_path_levels.proofs.Codes.{code_item}

module _ (P : ℕ → Bool → Type 0) (A : List ℕ) where
  -- the loop: of d levels from p on, and those below
  pub any_hit : (p d : ℕ) → 0 < d → P p true → AnyBy P A p d true
  unfolding AnyBy ends_at
  any_hit p zero i q = absurd (omega arith)
  any_hit p (suc d) i q = (true, q, refl)

  pub any_next : (p d : ℕ) {p' d' : ℕ} (r : Bool) → 0 < d → P p false → p' ≡ get_or A (p - 2) 0 → d' ≡ d - 1 → AnyBy P A p' d' r → AnyBy P A p d r
  unfolding AnyBy ends_at
  any_next p zero r i q u v x = absurd (omega arith)
  any_next p (suc d) {p'} {d'} r i q u v x =
      let e : d' ≡ d = omega arith in
      (false, q, subst (λ y. AnyBy P A y d r) u (subst (λ y. AnyBy P A p' y r) e x))

  pub any_end : (p d : ℕ) → d ≤ 0 → AnyBy P A p d false
  unfolding AnyBy
  any_end p zero i = refl
  any_end p (suc d) i = absurd (omega arith)

  -- the level with its run at p
  abbrev pub level_at : ℕ → Level
  level_at p = record { item = item_at (get_or A (p - 3) 0); modules = run_at A p (get_or A (p - 1) 0 + 1) }

  -- a test that answers as f does
  module _ (f : Level → Bool) (agree : (p : ℕ) (b : Bool) → P p b → b ≡ f (level_at p)) where
    pub any_levels : (p d : ℕ) (r : Bool) → AnyBy P A p d r → r ≡ any f (levels_of A p d)
    unfolding AnyBy ends_at levels_of any
    any_levels p zero r x = x
    any_levels p (suc d) r (true, q, e) = e ∙ ap (λ b. b || any f (levels_of A (get_or A (p - 2) 0) d)) (agree p true q)
    any_levels p (suc d) r (false, q, x) =
        any_levels (get_or A (p - 2) 0) d r x ∙ ap (λ b. b || any f (levels_of A (get_or A (p - 2) 0) d)) (agree p false q)

-- a test of the level's item, by its word, and one of that and of its modules
module _ (P : ℕ → Bool → Type 0) (A : List ℕ) (item : Item) {code : ℕ} (small : Small item) (named : code ≡ code_of item) where
  its_item : (p : ℕ) → eqb (get_or A (p - 3) 0) code ≡ same_item (item_at (get_or A (p - 3) 0)) item
  its_item p = ap (eqb (get_or A (p - 3) 0)) named ∙ sym (code_item (get_or A (p - 3) 0) item small)

  pub any_item : ((p : ℕ) (b : Bool) → P p b → b ≡ eqb (get_or A (p - 3) 0) code)
      → (p d : ℕ) (r : Bool) → AnyBy P A p d r → r ≡ any (λ l. same_item l.item item) (levels_of A p d)
  any_item agree = any_levels P A (λ l. same_item l.item item) (λ p b q. agree p b q ∙ its_item p)

  pub any_taken : (g : List ℕ → Bool)
      → ((p : ℕ) (b : Bool) → P p b → b ≡ (eqb (get_or A (p - 3) 0) code && g (run_at A p (get_or A (p - 1) 0 + 1))))
      → (p d : ℕ) (r : Bool) → AnyBy P A p d r → r ≡ any (λ l. same_item l.item item && g l.modules) (levels_of A p d)
  any_taken g agree =
      any_levels P A (λ l. same_item l.item item && g l.modules)
      (λ p b q. agree p b q ∙ ap (λ t. t && g (run_at A p (get_or A (p - 1) 0 + 1))) (its_item p))

-- where none passes a test, none passes it and another
pub any_both : (f g : Level → Bool) (ls : List Level) → any f ls ≡ false → any (λ l. f l && g l) ls ≡ false
unfolding any
any_both f g [] e = refl
any_both f g (l ∷ ls) e = let o = or_none_lem (f l) (any f ls) e in rw o.0 (any_both f g ls o.1)
