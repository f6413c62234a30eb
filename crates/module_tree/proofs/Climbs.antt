-- The walk of visibility, step by step.
use Rattle.std.specs.Prelude.{Option, None, Some, is_some}
use Prim.Native.Nat.{ℕ, suc, ◌+◌, ◌-◌, ◌<◌}
use mathlib.Core.Path.{◌≡◌, sym, ap, ◌∙◌}
use mathlib.Core.Bool.{true, false, not}
use native.Mathlib.Omega.{arith}
use lib.ListN.{length}
use lib.Dec.{eqb}
use borrow.Author.Tests.{eq-eqb, ne_eqb}
use Rattle.snapshot.specs.Records.{Snapshot}
use Rattle.module_tree.specs.rules.Modules.{map_no, crate_of, block_of, containing}
use Rattle.snapshot.specs.Ids.{plus_one}
use Rattle.snapshot.specs.declared.ids.ModuleId.{ModuleId}
use Rattle.module_tree.specs.rules.Visibility.{last_or, met_or, met, unless, climb_step, climb, in_module, is_visible_from}
use Rattle.module_tree.proofs.Laws.{Falls, last_more, met_more}

pub one_more_lem : (b : ℕ) → (b ≡ 0 → ⊥) → b ≡ suc (b - 1)
one_more_lem b h = omega arith

after : (n : ℕ) → n + 1 ≡ suc n
after n = omega arith

-- what an answer says of its number
pub some_number : {n : ℕ} (o : Option ModuleId) {m : ModuleId} → plus_one o ≡ n → o ≡ Some m → n ≡ suc m.0
unfolding plus_one
some_number o {m} e h = sym e ∙ ap plus_one h ∙ after m.0

pub none_number : {n : ℕ} (o : Option ModuleId) → plus_one o ≡ n → o ≡ None → n ≡ 0
unfolding plus_one
none_number o e h = sym e ∙ ap plus_one h

true_more : (m : ℕ) → true ≡ not (eqb (m + 1) 0)
true_more m = rw (ne_eqb (m + 1) 0 (λ z. omega (arith, z)))

pub some_exact : {n : ℕ} (o : Option ModuleId) → plus_one o ≡ n → is_some o ≡ not (eqb n 0)
unfolding plus_one
some_exact None e = ap (λ b. not (eqb b 0)) e
some_exact (Some m) e = true_more m.0 ∙ ap (λ b. not (eqb b 0)) e

module _ (s : Snapshot) (k : ℕ) (falls : Falls (climb_step s k) (length s.modules)) (t : ℕ) (h : t < length s.modules) where
  climb_more : climb s k t ≡ last_or (climb s k) t (unless (eqb (map_no s t) k) (block_of s t))
  unfolding climb climb_step
  climb_more = last_more (climb_step s k) (length s.modules) falls t h

  -- the viewer's map
  pub climb_here : map_no s t ≡ k → t ≡ climb s k t
  unfolding last_or unless
  climb_here e = sym (climb_more ∙ rw (eq-eqb _ _ e))

  -- a crate's own map
  pub climb_top : (map_no s t ≡ k → ⊥) → block_of s t ≡ 0 → t ≡ climb s k t
  unfolding last_or unless
  climb_top n e = sym (climb_more ∙ rw (ne_eqb _ _ n, e))

  -- out of a block
  pub climb_on : (map_no s t ≡ k → ⊥) → (b : ℕ) → block_of s t ≡ suc b → climb s k t ≡ climb s k b
  unfolding last_or unless
  climb_on n b e = climb_more ∙ rw (ne_eqb _ _ n, e)

  pub climb_less : (map_no s t ≡ k → ⊥) → (b : ℕ) → block_of s t ≡ suc b → b < t
  unfolding climb_step unless
  climb_less n b e = falls t b h (rw (ne_eqb _ _ n, e))

module _ (s : Snapshot) (falls : Falls (containing s) (length s.modules)) (v t : ℕ) (h : v < length s.modules) where
  pub meets_here : v ≡ t → true ≡ met (containing s) v t
  meets_here e = sym (met_more (containing s) (length s.modules) falls v t h ∙ rw (eq-eqb _ _ e))

  pub meets_end : (v ≡ t → ⊥) → containing s v ≡ 0 → false ≡ met (containing s) v t
  unfolding met_or
  meets_end n e = sym (met_more (containing s) (length s.modules) falls v t h ∙ rw (ne_eqb _ _ n, e))

  pub meets_on : (v ≡ t → ⊥) → (w : ℕ) → containing s v ≡ suc w → met (containing s) v t ≡ met (containing s) w t
  unfolding met_or
  meets_on n w e = met_more (containing s) (length s.modules) falls v t h ∙ rw (ne_eqb _ _ n, e)

module _ (s : Snapshot) (v t : ℕ) where
  pub in_same : v ≡ t → true ≡ in_module s v t
  unfolding in_module
  in_same e = rw (in_module, eq-eqb _ _ e)

  pub in_other : (v ≡ t → ⊥) → (crate_of s v ≡ crate_of s t → ⊥) → false ≡ in_module s v t
  unfolding in_module
  in_other n c = rw (in_module, ne_eqb _ _ n, ne_eqb _ _ c)

  pub in_walk : (v ≡ t → ⊥) → crate_of s v ≡ crate_of s t → met (containing s) v (climb s (map_no s v) t) ≡ in_module s v t
  unfolding in_module
  in_walk n c = rw (in_module, ne_eqb _ _ n, eq-eqb _ _ c)

pub visible_public : (s : Snapshot) (k n v : ℕ) → k ≡ 0 → true ≡ is_visible_from s k n v
unfolding is_visible_from
visible_public s k n v e = rw e

pub visible_crate : (s : Snapshot) (k n v : ℕ) → k ≡ 1 → eqb (crate_of s v) n ≡ is_visible_from s k n v
unfolding is_visible_from
visible_crate s k n v e = rw e
