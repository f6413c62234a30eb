-- The whole step of a record, with the tests of its kind and its arguments, at another place and after other scopes.
use Prim.Native.Nat.{ℕ, zero, suc, ◌+◌, ◌-◌, ◌≤◌, ◌<◌}
use mathlib.Core.Path.{◌≡◌, refl, sym, ◌∙◌, ap, subst}
use mathlib.Core.List.{List, [], ◌∷◌, ◌++◌}
use mathlib.Core.Bool.{Bool, true, false, ◌&&◌, ◌||◌, not}
use native.Mathlib.Omega.{arith}
use native.Mathlib.Nat.{add-zero}
use lib.Dec.{eqb, leb, ltb}
use lib.ListN.{length, get_or}
use borrow.Author.Tests.{eqb-true, lt-ltb, leb-true, le-leb, not-true}
use Rattle.snapshot.specs.Lists.{any}
use Rattle.snapshot.specs.Refusals.{form_refusal}
use Rattle.snapshot.specs.Words.{kind_of, pay_of, arguments_of, arguments_at}
use Rattle.snapshot.specs.Sizes.{scope_size}
use Rattle.snapshot.specs.Records.{Snapshot, Scope, scope_at}
use Rattle.check_rules.specs.Tests.{counts_of, ns_placed, same_entry, scope_defined, scope_range}
use Rattle.check_rules.specs.Steps.{Next, on, need, add_scope, scope_step}
use Rattle.check_rules.specs.Verdict.{follows, arguments_from, record_step, step_at}
use Rattle.accept.proofs.Accepted.{by_test, Taken, judge_on}
use Rattle.accept.proofs.Bools.{and_four, and_three, and_two, or_right}
use Rattle.accept.proofs.Turns.{arguments_fit}
use Rattle.edit_rules.specs.Entries.{moved_scope, with_scopes}
use Rattle.edit_rules.proofs.scope_edits.Moved.{Same, same_head, scope_same, other_moved, arguments_are}

-- which kinds follow one another

module _ (last k : ℕ) (h : follows last k ≡ true) where
  pub follows_parts : (leb 1 k ≡ true) × (leb k 13 ≡ true) × (eqb k 12 ≡ false) × (leb last k || eqb last 5 && eqb k 4 ≡ true)
  follows_parts =
      let p = and_four (leb 1 k) (leb k 13) (not (eqb k 12)) (leb last k || eqb last 5 && eqb k 4) h in
      (p.0, p.1, not-true (eqb k 12) p.2, p.3)

  -- another kind before it that is not higher
  pub follows_other : (m : ℕ) → m ≤ k → follows m k ≡ true
  follows_other m g = rw (follows_parts.0, follows_parts.1, follows_parts.2, le-leb m k g)

  pub follows_rise : (last ≡ 5 → k ≡ 4 → ⊥) → last ≤ k
  follows_rise n =
      by_test (leb last k) (λ c. leb-true last k c)
      (λ c. let q = and_two (eqb last 5) (eqb k 4) (or_right (leb last k) (eqb last 5 && eqb k 4) follows_parts.3 c) in
      absurd (n (eqb-true last 5 q.0) (eqb-true k 4 q.1)))

  pub follows_low : k ≤ 9 → last ≤ 9
  follows_low g =
      by_test (leb last k) (λ c. let r = leb-true last k c in omega arith)
      (λ c. let q = and_two (eqb last 5) (eqb k 4) (or_right (leb last k) (eqb last 5 && eqb k 4) follows_parts.3 c) in
      let r = eqb-true last 5 q.0 in omega arith)

-- the arguments

pub arguments_same : (W X : List ℕ) (i j n : ℕ) → ((d : ℕ) → d < n → get_or X (j + d) 0 ≡ get_or W (i + d) 0) → j + n ≤ length X
    → arguments_from W i n ≡ true → arguments_from X j n ≡ true
unfolding arguments_from
arguments_same W X i j zero h g e = refl
arguments_same W X i j (suc n) h g e =
    let q = and_three (ltb i (length W)) (eqb (kind_of (get_or W i 0)) 0) (arguments_from W (i + 1) n) e in
    let a : get_or X (j + 0) 0 ≡ get_or W (i + 0) 0 = h 0 (omega arith) in
    let f : get_or X j 0 ≡ get_or W i 0 = rw (add-zero j, add-zero i) at a in
    let l : j < length X = omega arith in
    let r = arguments_same W X (i + 1) (j + 1) n
    (λ d k. let x : j + 1 + d ≡ j + suc d = omega arith in let y : i + suc d ≡ i + 1 + d = omega arith in
    ap (λ z. get_or X z 0) x ∙ h (suc d) (omega arith) ∙ ap (λ z. get_or W z 0) y) (omega arith) q.2 in
    rw (lt-ltb j (length X) l, f, q.1, r)

-- a step that takes a record

pub record Taking (W : List ℕ) (a last : ℕ) (s t : Snapshot) : Type 0 where
  pub order : follows last (kind_of (get_or W a 0)) ≡ true
  pub whole : arguments_from W (a + 1) (arguments_at W a) ≡ true
  pub step : record_step (kind_of (get_or W a 0)) W a s ≡ on t

need_both : (b : Bool) (n : ℕ) (r : Next) (t : Snapshot) → need b n r ≡ on t → (b ≡ true) × (r ≡ on t)
need_both true n r t h = (refl, h)
need_both false n r t h = let z : ◌≡◌ {A = ℕ} 0 1 = cc in absurd (omega arith)

module _ (W : List ℕ) (a last : ℕ) (s t : Snapshot) where
  pub taking : step_at W a last s ≡ on t → Taking W a last s t
  unfolding step_at
  taking e =
      let q = need_both (follows last (kind_of (get_or W a 0))) form_refusal _ t e in
      let r = need_both (arguments_from W (a + 1) (arguments_at W a)) form_refusal _ t q.1 in
      record { order = q.0; whole = r.0; step = r.1 }

  pub taken_step : Taking W a last s t → step_at W a last s ≡ on t
  unfolding step_at
  taken_step q = rw (step_at, q.order, q.whole) q.step

  pub taking_within : Taking W a last s t → a < length W → a + 1 + arguments_at W a ≤ length W
  taking_within q h = arguments_fit W (a + 1) (arguments_at W a) (omega arith) q.whole

-- the step of a scope record
pub scope_kind_lem : (W : List ℕ) (a k : ℕ) (s : Snapshot) → k ≡ 9 → record_step k W a s ≡ scope_step s (scope_at W a)
unfolding record_step
scope_kind_lem W a k s e = rw e

pub scope_taken : (s t : Snapshot) (x : Scope) → scope_step s x ≡ on t
    → Taken (scope_range x) (scope_defined (counts_of s) x) (any (same_entry x) s.scopes) (ns_placed s x.ns x.definition) true (add_scope s x) t
unfolding scope_step
scope_taken s t x e =
    judge_on (scope_range x) (scope_defined (counts_of s) x) (any (same_entry x) s.scopes) (ns_placed s x.ns x.definition) true (add_scope s x) t e

pub scope_takes : (s : Snapshot) (x : Scope) → scope_range x ≡ true → scope_defined (counts_of s) x ≡ true → any (same_entry x) s.scopes ≡ false
    → ns_placed s x.ns x.definition ≡ true → scope_step s x ≡ on (add_scope s x)
unfolding scope_step
scope_takes s x a b c d = rw (scope_step, a, b, c, d)

-- R relates the scopes of a run over W with those of a run over X; places go by m; records are of kinds from low on
module _ (W X : List ℕ) (m : ℕ → ℕ) (R : List Scope → List Scope → Type 0) (low : ℕ)
    (keep : low ≤ 9 → (xs ys : List Scope) (y : Scope) → R xs ys → any (same_entry y) xs ≡ false
    → (any (same_entry y) ys ≡ false) × R (xs ++ (y ∷ [])) (ys ++ (moved_scope m y ∷ [])))
  where
    module _ (a b : ℕ) (to : b ≡ m a) (still : kind_of (get_or W a 0) ≡ 8 → b ≡ a) (s t : Snapshot) (ys : List Scope)
        (same : Same W X a b (arguments_at W a)) (rel : R s.scopes ys) (up : low ≤ kind_of (get_or W a 0))
      where
        abbrev Result : Type 0
        Result = (zs : List Scope) × R t.scopes zs × (record_step (kind_of (get_or W a 0)) X b (with_scopes m s ys) ≡ on (with_scopes m t zs))

        scope_moved : kind_of (get_or W a 0) ≡ 9 → record_step (kind_of (get_or W a 0)) W a s ≡ on t → Result
        unfolding arguments_of
        scope_moved k e =
            let f : scope_step s (scope_at W a) ≡ on t = sym (scope_kind_lem W a _ s k) ∙ e in
            let q = scope_taken s t (scope_at W a) f in
            let p = q.passed in
            let r = keep (subst (λ x. low ≤ x) k up) s.scopes ys (scope_at W a) rel p.new in
            let sized : arguments_at W a ≡ scope_size - 1 = arguments_are W a 9 k in
            let y = moved_scope m (scope_at W a) in
            let x = scope_same W X a b m to (subst (λ n. Same W X a b n) sized same) in (
              ys ++ (y ∷ []),
              subst (λ (u : Snapshot). R u.scopes (ys ++ (y ∷ []))) q.same r.1,
              scope_kind_lem X b _ (with_scopes m s ys) k ∙ ap (scope_step (with_scopes m s ys)) x
                  ∙ scope_takes (with_scopes m s ys) y p.ranged p.known r.0 p.right
                  ∙ ap (λ (u : Snapshot). on (with_scopes m u (ys ++ (y ∷ [])))) q.same,
            )

        pub record_moved : (last : ℕ) → follows last (kind_of (get_or W a 0)) ≡ true → record_step (kind_of (get_or W a 0)) W a s ≡ on t → Result
        record_moved last o e =
            by_test (eqb (kind_of (get_or W a 0)) 9)
            (λ c. scope_moved (eqb-true (kind_of (get_or W a 0)) 9 c) e)
            (λ c. let f = follows_parts last (kind_of (get_or W a 0)) o in
            let q = other_moved W X m a b (kind_of (get_or W a 0)) to still refl same s t ys c f.1 f.2 f.0 e in
            (ys, subst (λ xs. R xs ys) (sym q.0.0) rel, q.1))

        -- a record that is taken in W is taken in X
        pub step_moved : (last next : ℕ) → follows next (kind_of (get_or W a 0)) ≡ true → b + 1 + arguments_at W a ≤ length X
            → step_at W a last s ≡ on t
            → (zs : List Scope) × R t.scopes zs × (step_at X b next (with_scopes m s ys) ≡ on (with_scopes m t zs))
        step_moved last next o fits e =
            let q = taking W a last s t e in
            let r = record_moved last q.order q.step in
            let f = same_head W X a b _ same in
            let g : kind_of (get_or X b 0) ≡ kind_of (get_or W a 0) = ap kind_of f in
            let n : arguments_at X b ≡ arguments_at W a = ap (λ w. arguments_of (kind_of w) (pay_of w)) f in
            let w = arguments_same W X (a + 1) (b + 1) (arguments_at W a)
            (λ d k. let x : b + 1 + d ≡ b + suc d = omega arith in let y : a + suc d ≡ a + 1 + d = omega arith in
            ap (λ z. get_or X z 0) x ∙ same (suc d) (omega arith) ∙ ap (λ z. get_or W z 0) y) fits q.whole in (
              r.0,
              r.1,
              taken_step X b next (with_scopes m s ys) (with_scopes m t r.0)
                  (record {
                    order = ap (follows next) g ∙ o;
                    whole = ap (arguments_from X (b + 1)) n ∙ w;
                    step = ap (λ k. record_step k X b (with_scopes m s ys)) g ∙ r.2;
                  }),
            )
