-- The walk and privacy, each by the way up from the viewer.
use mathlib.Core.Path.{◌≡◌, refl, ap, sym, ◌∙◌, subst}
use mathlib.Core.Bool.{true, true≢false, false≢true}
use mathlib.Core.Logic.{◌⊎◌, inl, inr, ⊎_elim, ◌↔◌}
use Prim.Native.Nat.{ℕ, zero, suc, ◌<◌}
use native.Mathlib.Omega.{arith}
use lib.Dec.{eqb}
use lib.ListN.{length}
use borrow.Author.Tests.{eqb-true, eqb-false, eq-eqb, ne_eqb}
use Rattle.snapshot.specs.Records.{Snapshot}
use Rattle.accept.specs.Valid.{Tree}
use Rattle.accept.proofs.Accepted.{by_test}
use Rattle.module_tree.specs.rules.Modules.{map_of, map_no, parent_of, block_of, crate_of, or_else, containing}
use Rattle.module_tree.specs.rules.Visibility.{met, unless, climb_step, climb, in_module}
use Rattle.module_tree.specs.Privacy.{StandsIn, inner, outermost, block, Descends, itself, child, Visible}
use Rattle.module_tree.specs.Differs.{now, on, Within, Leaves, here, later, Differs}
use Rattle.module_tree.proofs.Laws.{by_number, Falls}
use Rattle.module_tree.proofs.Chains.{parent_fits, block_fits, root_first, containing_falls, climb_falls}
use Rattle.module_tree.proofs.Ways.{last_end, last_on, met_meets, meets_met, meets_below, meets_trans}

up_parent : (s : Snapshot) (m p : ℕ) → parent_of s m ≡ suc p → containing s m ≡ suc p
unfolding containing or_else
up_parent s m p e = rw e

up_root : (s : Snapshot) (m : ℕ) → parent_of s m ≡ 0 → containing s m ≡ block_of s m
unfolding containing or_else
up_root s m e = rw e

pub step_same : (s : Snapshot) (k t : ℕ) → map_no s t ≡ k → climb_step s k t ≡ 0
unfolding climb_step unless
step_same s k t e = rw (eq-eqb (map_no s t) k e)

step_other : (s : Snapshot) (k t : ℕ) → (map_no s t ≡ k → ⊥) → climb_step s k t ≡ block_of s t
unfolding climb_step unless
step_other s k t e = rw (ne_eqb (map_no s t) k e)

-- A step that is one goes from a block of another map to its parent.
pub step_on : (s : Snapshot) (k t b : ℕ) → climb_step s k t ≡ suc b → (map_no s t ≡ k → ⊥) × (block_of s t ≡ suc b)
step_on s k t b e = by_test (eqb (map_no s t) k)
    (λ y. let z = step_same s k t (eqb-true (map_no s t) k y) in absurd (omega arith))
    (λ n. (eqb-false (map_no s t) k n, sym (step_other s k t (eqb-false (map_no s t) k n)) ∙ e))

-- A viewer v, a target t, the module x in which t stands, and the end c of the climb.
record Compared (s : Snapshot) (v t x c : ℕ) : Type 0 where
  pub back : Within s v x → Within s v c
  pub forth : (Within s v c → Within s v x) ⊎ Leaves s (map_no s v) x t

module _ (s : Snapshot) (ok : Tree s.maps s.modules) where
  up_falls : Falls (containing s) (length s.modules)
  up_falls = containing_falls s ok

  -- From a module of a block's map the way up meets the block's parent.
  out_of_block : (d t b : ℕ) → t < d → t < length s.modules → block_of s t ≡ suc b → Within s t b
  out_of_block zero t b h r e = absurd (omega arith)
  out_of_block (suc d) t b h r e = by_number (parent_of s t)
      (λ z. on (up_root s t z ∙ e) (now refl))
      (λ p q.
      let f = parent_fits s ok t p r q in
      on (up_parent s t p q) (out_of_block d p b (omega arith) (omega arith) (ap (λ (k : ℕ). (map_of s k).block) f.1 ∙ e)))

  -- From every module of a map it meets the root.
  to_root : (d v t : ℕ) → v < d → v < length s.modules → t < length s.modules → parent_of s t ≡ 0 → map_no s t ≡ map_no s v → Within s v t
  to_root zero v t h r q z e = absurd (omega arith)
  to_root (suc d) v t h r q z e = by_number (parent_of s v)
      (λ y.
      let below : v < t → ⊥ = λ l. root_first s ok t v q z l (sym e) in
      let above : t < v → ⊥ = λ l. root_first s ok v t r y l e in
      now (omega arith))
      (λ p y.
      let f = parent_fits s ok v p r y in
      on (up_parent s v p y) (to_root d p t (omega arith) (omega arith) q z (e ∙ sym f.1)))

  same_crate' : (t v : ℕ) → v < length s.modules → Within s v t → crate_of s v ≡ crate_of s t
  same_crate' t v r (now e) = ap (crate_of s) e
  same_crate' t v r (on {w = w} e m) =
      let l = up_falls v w r e in
      by_number (parent_of s v)
      (λ z. sym (block_fits s ok v w r (sym (up_root s v z) ∙ e)).1)
      (λ p q. let f = parent_fits s ok v p r q in let u = up_parent s v p q in let same : p ≡ w = omega arith in
      ap (λ (k : ℕ). (map_of s k).crate) (sym f.1 ∙ ap (map_no s) same))
      ∙ same_crate' t w (omega arith) m

  same_crate : (v t : ℕ) → v < length s.modules → Within s v t → crate_of s v ≡ crate_of s t
  same_crate v t = same_crate' t v

  climb_end : (k t : ℕ) → t < length s.modules → climb_step s k t ≡ 0 → climb s k t ≡ t
  unfolding climb
  climb_end k t r z = last_end (climb_step s k) (length s.modules) (climb_falls s ok k) t r z

  climb_on : (k t b : ℕ) → t < length s.modules → climb_step s k t ≡ suc b → climb s k t ≡ climb s k b
  unfolding climb
  climb_on k t b r q = last_on (climb_step s k) (length s.modules) (climb_falls s ok k) t b r q

  -- The way up from the target meets the climb's end.
  within_climb : (d k t : ℕ) → t < d → t < length s.modules → Within s t (climb s k t)
  within_climb zero k t h r = absurd (omega arith)
  within_climb (suc d) k t h r = by_number (climb_step s k t)
      (λ z. now (sym (climb_end k t r z)))
      (λ b q.
      let e = (step_on s k t b q).1 in
      let l = (block_fits s ok t b r e).0 in
      rw (climb_on k t b r q) (meets_trans (out_of_block (suc t) t b (omega arith) r e) (within_climb d k b (omega arith) (omega arith))))

  -- The module in which t stands: there is one, and only one, and it is above t.
  pub stands : (d t : ℕ) → t < d → t < length s.modules → (x : ℕ) × StandsIn s x t
  stands zero t h r = absurd (omega arith)
  stands (suc d) t h r = by_number (parent_of s t)
      (λ z. by_number (block_of s t)
      (λ y. (t, outermost z y refl))
      (λ b q.
      let l = (block_fits s ok t b r q).0 in
      let i = stands d b (omega arith) (omega arith) in
      (i.0, block z q i.1)))
      (λ p q. (t, inner q refl))

  stands_within' : (x t : ℕ) → t < length s.modules → StandsIn s x t → Within s t x
  stands_within' x t r (inner q e) = now e
  stands_within' x t r (outermost z y e) = now e
  stands_within' x t r (block {b = b} z q i) = let l = (block_fits s ok t b r q).0 in on (up_root s t z ∙ q) (stands_within' x b (omega arith) i)

  pub stands_within : (t x : ℕ) → t < length s.modules → StandsIn s x t → Within s t x
  stands_within t x = stands_within' x t

  stands_one' : (x y t : ℕ) → StandsIn s x t → StandsIn s y t → x ≡ y
  stands_one' x y t (inner q e) (inner q' e') = cc
  stands_one' x y t (inner q e) (outermost z w e') = absurd (omega arith)
  stands_one' x y t (inner q e) (block z w i) = absurd (omega arith)
  stands_one' x y t (outermost z w e) (inner q e') = absurd (omega arith)
  stands_one' x y t (outermost z w e) (outermost z' w' e') = cc
  stands_one' x y t (outermost z w e) (block z' w' i) = absurd (omega arith)
  stands_one' x y t (block z w i) (inner q e') = absurd (omega arith)
  stands_one' x y t (block z w i) (outermost z' w' e') = absurd (omega arith)
  stands_one' x y t (block {b = b} z w i) (block {b = b'} z' w' i') =
      let same : b' ≡ b = omega arith in
      stands_one' x y b i (subst (λ (m : ℕ). StandsIn s y m) same i')

  pub stands_one : (t x y : ℕ) → StandsIn s x t → StandsIn s y t → x ≡ y
  stands_one t x y = stands_one' x y t

  stands_itself' : (x t : ℕ) → StandsIn s x t → StandsIn s x x
  stands_itself' x t (inner q e) = subst (λ (m : ℕ). StandsIn s x m) e (inner q e)
  stands_itself' x t (outermost z y e) = subst (λ (m : ℕ). StandsIn s x m) e (outermost z y e)
  stands_itself' x t (block {b = b} z q i) = stands_itself' x b i

  stands_itself : (t x : ℕ) → StandsIn s x t → StandsIn s x x
  stands_itself t x = stands_itself' x t

  descends_within' : (y x : ℕ) → x < length s.modules → Descends s y x → Within s x y
  descends_within' y x r (itself e) = now e
  descends_within' y x r (child {p = p} {q = q} e i d) =
      let f = parent_fits s ok x p r e in
      let w = stands_within p q (omega arith) i in
      meets_trans (on (up_parent s x p e) w) (descends_within' y q (meets_below (containing s) (length s.modules) up_falls p q (omega arith) w) d)

  descends_within : (x y : ℕ) → x < length s.modules → Descends s y x → Within s x y
  descends_within x y = descends_within' y x

  within_descends' : (x v : ℕ) → StandsIn s x x → Within s v x → (h : ℕ) × StandsIn s h v × Descends s x h
  within_descends' x v i (now e) = (x, subst (λ (m : ℕ). StandsIn s x m) (sym e) i, itself refl)
  within_descends' x v i (on {w = w} e m) =
      let (h, j, d) = within_descends' x w i m in
      by_number (parent_of s v)
      (λ z. (h, block z (sym (up_root s v z) ∙ e) j, d))
      (λ p q.
      let u = up_parent s v p q in
      let same : w ≡ p = omega arith in
      (v, inner q refl, child q (subst (λ (y : ℕ). StandsIn s h y) same j) d))

  within_descends : (v x : ℕ) → StandsIn s x x → Within s v x → (h : ℕ) × StandsIn s h v × Descends s x h
  within_descends v x = within_descends' x v

  -- Privacy by the way up alone.
  pub visible_within : (v t x : ℕ) → v < length s.modules → StandsIn s x t → Visible s v t ↔ Within s v x
  visible_within v t x r i = (
    (λ a.
        let w = stands_within v a.here r a.viewer in
        let d = descends_within a.here a.there (meets_below (containing s) (length s.modules) up_falls v a.here r w) a.descends in
        subst (λ (y : ℕ). Within s v y) (stands_one t a.there x a.target i) (meets_trans w d)),
    λ w. let (h, j, d) = within_descends v x (stands_itself t x i) w in
        record { here = h; there = x; viewer = j; target = i; descends = d },
  )

  -- The walk by the way up and the climb alone: the two tests before it decide nothing.
  pub walk_within : (v t : ℕ) → v < length s.modules → t < length s.modules → (in_module s v t ≡ true) ↔ Within s v (climb s (map_no s v) t)
  unfolding in_module
  walk_within v t r q = (
    (λ e. by_test (eqb v t)
        (λ y. let same = eqb-true v t y in
        now (same ∙ sym (climb_end (map_no s v) t q (step_same s (map_no s v) t (ap (map_no s) (sym same))))))
        (λ n. by_test (eqb (crate_of s v) (crate_of s t))
        (λ y. met_meets (containing s) (length s.modules) up_falls v (climb s (map_no s v) t) r (rw (n, y) at e))
        (λ m. absurd (false≢true (rw (n, m) at e))))),
    λ w.
        let same = same_crate v (climb s (map_no s v) t) r w
        ∙ sym (same_crate t (climb s (map_no s v) t) q (within_climb (suc t) (map_no s v) t (omega arith) q)) in
        let m = meets_met (containing s) (length s.modules) up_falls v (climb s (map_no s v) t) r w in
        by_test (eqb v t) (λ y. rw y) (λ n. rw (n, eq-eqb (crate_of s v) (crate_of s t) same, m)),
  )

  module _ (v : ℕ) (r : v < length s.modules) where
    ended : (t x : ℕ) → t < length s.modules → climb_step s (map_no s v) t ≡ 0 → StandsIn s x t → (Within s v x → Within s v t)
        → Compared s v t x (climb s (map_no s v) t)
    ended t x q z i f = rw (climb_end (map_no s v) t q z) (record { back = f; forth = inl (λ w. meets_trans w (stands_within t x q i)) })

    compared' : (x t : ℕ) → t < length s.modules → StandsIn s x t → Compared s v t x (climb s (map_no s v) t)
    compared' x t q (inner z e) = by_number (climb_step s (map_no s v) t)
        (λ y. ended t x q y (inner z e) (λ w. rw e w))
        (λ b y. record {
          back = λ w. meets_trans w (subst (λ (m : ℕ). Within s m (climb s (map_no s v) t)) e (within_climb (suc t) (map_no s v) t (omega arith) q));
          forth = inr (here y z e);
        })
    compared' x t q (outermost z y e) = by_number (climb_step s (map_no s v) t)
        (λ n. ended t x q n (outermost z y e) (λ w. rw e w))
        (λ b n. let m = (step_on s (map_no s v) t b n).1 in absurd (omega arith))
    compared' x t q (block {b = b} z y i) = by_test (eqb (map_no s t) (map_no s v))
        (λ a. let e = eqb-true (map_no s t) (map_no s v) a in
        ended t x q (step_same s (map_no s v) t e) (block z y i) (λ w. to_root (suc v) v t (omega arith) r q z e))
        (λ n.
        let step : climb_step s (map_no s v) t ≡ suc b = step_other s (map_no s v) t (eqb-false (map_no s t) (map_no s v) n) ∙ y in
        let l = (block_fits s ok t b q y).0 in
        let a = compared' x b (omega arith) i in
        rw (climb_on (map_no s v) t b q step) (record {
          back = a.back;
          forth = ⊎_elim (λ f. inl f) (λ f. inr (later step z f)) a.forth;
        }))

    compared : (t x : ℕ) → t < length s.modules → StandsIn s x t → Compared s v t x (climb s (map_no s v) t)
    compared t x = compared' x t

    leaves_stands' : (x t : ℕ) → Leaves s (map_no s v) x t → StandsIn s x t
    leaves_stands' x t (here e p q) = inner p q
    leaves_stands' x t (later {b = b} e z l) = block z (step_on s (map_no s v) t b e).1 (leaves_stands' x b l)

    pub leaves_stands : (t x : ℕ) → Leaves s (map_no s v) x t → StandsIn s x t
    leaves_stands t x = leaves_stands' x t

    module _ (t : ℕ) (q : t < length s.modules) where
      -- Privacy implies the walk.
      pub privacy_walk : Visible s v t → in_module s v t ≡ true
      privacy_walk a =
          let i = a.target in
          (walk_within v t r q).1 ((compared t a.there q i).back ((visible_within v t a.there r i).0 a))

      -- Where the walk says visible, it is privacy or the difference.
      pub walk_privacy : in_module s v t ≡ true → Visible s v t ⊎ Differs s v t
      walk_privacy e =
          let (x, i) = stands (suc t) t (omega arith) q in
          let w = (walk_within v t r q).0 e in
          ⊎_elim
          (λ f. inl ((visible_within v t x r i).1 (f w)))
          (λ l. by_test (met (containing s) v x)
          (λ y. inl ((visible_within v t x r i).1 (met_meets (containing s) (length s.modules) up_falls v x r y)))
          (λ n. inr (record {
            left = x;
            leaves = l;
            near = w;
            far = λ m. true≢false (sym (meets_met (containing s) (length s.modules) up_falls v x r m) ∙ n);
          })))
          (compared t x q i).forth

      -- In the difference the walk says visible, and privacy does not.
      pub differs_walk : Differs s v t → in_module s v t ≡ true
      differs_walk d = (walk_within v t r q).1 d.near

      pub differs_privacy : Differs s v t → Visible s v t → ⊥
      differs_privacy d a = d.far ((visible_within v t d.left r (leaves_stands t d.left d.leaves)).0 a)
