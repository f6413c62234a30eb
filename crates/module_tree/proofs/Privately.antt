-- The test of privacy is privacy.
use mathlib.Core.Path.{◌≡◌, sym, ◌∙◌}
use mathlib.Core.Bool.{true, false, true≢false}
use mathlib.Core.Logic.{◌↔◌, ⊎_elim}
use Prim.Native.Nat.{ℕ, zero, suc, ◌<◌}
use native.Mathlib.Omega.{arith}
use mathlib.Core.List.{List}
use lib.ListN.{length}
use Rattle.snapshot.specs.Records.{Snapshot}
use Rattle.check_rules.specs.Verdict.{accept, verdict}
use Rattle.accept.specs.Valid.{Tree}
use Rattle.accept.proofs.Trees.{accepted_tree}
use Rattle.accept.proofs.Accepted.{by_test}
use Rattle.module_tree.specs.rules.Modules.{parent_of, block_of, containing}
use Rattle.module_tree.specs.rules.Visibility.{in_module}
use Rattle.module_tree.specs.Privacy.{StandsIn, inner, outermost, block, Visible}
use Rattle.module_tree.specs.Differs.{Differs}
use Rattle.module_tree.specs.rules.Privately.{of_root, block_step, module_around, privately}
use Rattle.module_tree.proofs.Laws.{by_number, Falls}
use Rattle.module_tree.proofs.Chains.{block_fits, containing_falls}
use Rattle.module_tree.proofs.Ways.{last_end, last_on, met_meets, meets_met}
use Rattle.module_tree.proofs.Compared.{visible_within}
use Rattle.module_tree.proofs.Private.{module_answers}

pub step_root : (s : Snapshot) (t : ℕ) → parent_of s t ≡ 0 → block_step s t ≡ block_of s t
unfolding block_step of_root
step_root s t z = rw z

pub step_inner : (s : Snapshot) (t p : ℕ) → parent_of s t ≡ suc p → block_step s t ≡ 0
unfolding block_step of_root
step_inner s t p z = rw z

module _ (s : Snapshot) (ok : Tree s.maps s.modules) where
  pub step_falls : Falls (block_step s) (length s.modules)
  step_falls t b r e = by_number (parent_of s t)
      (λ z. (block_fits s ok t b r (sym (step_root s t z) ∙ e)).0)
      (λ p z. let y = step_inner s t p z in absurd (omega arith))

  pub around_stands : (d t : ℕ) → t < d → t < length s.modules → StandsIn s (module_around s t) t
  unfolding module_around
  around_stands zero t h r = absurd (omega arith)
  around_stands (suc d) t h r = by_number (parent_of s t)
      (λ z. by_number (block_of s t)
      (λ y. outermost z y (sym (last_end (block_step s) (length s.modules) step_falls t r (step_root s t z ∙ y))))
      (λ b y.
      let l = (block_fits s ok t b r y).0 in
      block z y (rw (last_on (block_step s) (length s.modules) step_falls t b r (step_root s t z ∙ y))
      (around_stands d b (omega arith) (omega arith)))))
      (λ p z. inner z (sym (last_end (block_step s) (length s.modules) step_falls t r (step_inner s t p z))))

-- Viewing module v and target module t of an accepted snapshot.
module _ (W : List ℕ) (s : Snapshot) (accepted : verdict W ≡ accept s) (v t : ℕ) (r : v < length s.modules) (q : t < length s.modules) where
  -- The test says yes exactly where privacy holds.
  pub privately_is : (privately s v t ≡ true) ↔ Visible s v t
  unfolding privately
  privately_is =
      let ok = accepted_tree W s accepted in
      let i = around_stands s ok (suc t) t (omega arith) q in
      let f = visible_within s ok v t (module_around s t) r i in (
        (λ e. f.1 (met_meets (containing s) (length s.modules) (containing_falls s ok) v (module_around s t) r e)),
        λ a. meets_met (containing s) (length s.modules) (containing_falls s ok) v (module_around s t) r (f.0 a),
      )

  -- Where the test says no, there is no privacy.
  pub not_private : privately s v t ≡ false → Visible s v t → ⊥
  not_private n a = true≢false (sym (privately_is.1 a) ∙ n)

  -- The condition is exact: the tests differ there, and only so.
  pub differs_is : Differs s v t ↔ ((in_module s v t ≡ true) × (privately s v t ≡ false))
  differs_is =
      let a = module_answers W s accepted v t r q in (
        (λ d. ((a.wrong d).0, by_test (privately s v t) (λ e. absurd ((a.wrong d).1 (privately_is.0 e))) (λ e. e))),
        λ e. ⊎_elim (λ p. absurd (not_private e.1 p)) (λ d. d) (a.sound e.0),
      )

  -- Elsewhere they are equal.
  pub equal_else : (Differs s v t → ⊥) → in_module s v t ≡ privately s v t
  equal_else n =
      by_test (privately s v t) (λ e. (module_answers W s accepted v t r q).complete (privately_is.0 e) ∙ sym e)
      (λ e. by_test (in_module s v t) (λ w. absurd (n (differs_is.1 (w, e)))) (λ w. w ∙ sym e))
