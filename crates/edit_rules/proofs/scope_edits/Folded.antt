-- The fold over the records, parted at a place; and a part of it over other words, after other scopes.
use Prim.Native.Nat.{ℕ, zero, suc, ◌+◌, ◌≤◌, ◌<◌}
use mathlib.Core.Path.{◌≡◌, refl, sym, ◌∙◌, ap, subst}
use mathlib.Core.List.{List, [], ◌∷◌, ◌++◌}
use mathlib.Core.Bool.{true, false, ◌&&◌}
use native.Mathlib.Omega.{arith}
use native.Mathlib.Nat.{add-zero}
use lib.Dec.{eqb, ltb}
use lib.ListN.{length, get_or}
use borrow.Author.Tests.{ltb-true, ltb-false, lt-ltb, ne_eqb}
use Rattle.snapshot.specs.Lists.{any}
use Rattle.snapshot.specs.Refusals.{place_refusal}
use Rattle.snapshot.specs.Words.{kind_of, pay_of, arguments_of, arguments_at}
use Rattle.snapshot.specs.Records.{Snapshot, Scope, Import, Extern, Member, import_at, extern_at, member_at}
use Rattle.check_rules.specs.Tests.{counts_of, same_entry, maps_filled, crates_own, import_range, import_defined, ns_placed, extern_defined}
use Rattle.check_rules.specs.Tests.{same_extern}
use Rattle.check_rules.specs.Tests.{member_range, member_defined, member_placed}
use Rattle.check_rules.specs.Steps.{on, add_import, add_extern, add_member, import_step, extern_step, member_step}
use Rattle.check_rules.specs.Verdict.{record_step, step_at, refuse, accept, finish, records}
use Rattle.accept.proofs.Accepted.{by_test, by_next, judge_on}
use Rattle.accept.proofs.Folds.{records_end}
use Rattle.edit_rules.specs.Entries.{moved_scope, with_scopes}
use Rattle.edit_rules.proofs.scope_edits.Moved.{same_head}
use Rattle.edit_rules.proofs.scope_edits.Stepped.{follows_rise, follows_other, taking, taken_step, taking_within, step_moved}

refuse_not : {C : Type 0} {n at : ℕ} {u : Snapshot} → refuse n at ≡ accept u → C
refuse_not e = let z : ◌≡◌ {A = ℕ} 0 1 = cc in absurd (omega arith)

-- enough turns are as good as more
pub records_more : (W : List ℕ) (n m at last : ℕ) (s : Snapshot) → length W ≤ n + at → length W ≤ m + at
    → records n W at last s ≡ records m W at last s
unfolding records
records_more W zero zero at last s h g = refl
records_more W zero (suc m) at last s h g = sym (records_end W at last s (suc m) (omega arith))
records_more W (suc n) zero at last s h g = records_end W at last s (suc n) (omega arith)
records_more W (suc n) (suc m) at last s h g =
    by_test (ltb at (length W))
    (λ c. by_next (step_at W at last s)
    (λ r e. rw (records, c, e))
    (λ t e. rw (records, c, e) (records_more W n m (at + 1 + arguments_at W at) (kind_of (get_or W at 0)) t (omega arith) (omega arith))))
    (λ c. rw (records, c))

-- the last tests

pub finish_accepts : (at : ℕ) (s u : Snapshot) → finish at s ≡ accept u → (s ≡ u) × (maps_filled s && crates_own s ≡ true)
unfolding finish
finish_accepts at s u e =
    by_test (maps_filled s && crates_own s)
    (λ c. let f : accept s ≡ accept u = rw (finish, c) at e in let q : s ≡ u = cc in (q, c))
    (λ c. let f : refuse place_refusal at ≡ accept u = rw (finish, c) at e in refuse_not f)

finish_moved : (m : ℕ → ℕ) (at to : ℕ) (s u : Snapshot) (ys : List Scope) → finish at s ≡ accept u
    → finish to (with_scopes m s ys) ≡ accept (with_scopes m u ys)
unfolding finish
finish_moved m at to s u ys e =
    let q = finish_accepts at s u e in
    rw (finish, q.1) (ap (λ x. accept (with_scopes m x ys)) q.0)

pub records_done : (W : List ℕ) (n at last : ℕ) (s u : Snapshot) → length W ≤ at → records n W at last s ≡ accept u → s ≡ u
records_done W n at last s u h e = (finish_accepts (length W) s u (sym (records_end W at last s n h) ∙ e)).0

-- a record that was taken on the way to an accepted snapshot
pub record Next_record (W : List ℕ) (n a last : ℕ) (s u : Snapshot) : Type 0 where
  pub state : Snapshot
  pub step : step_at W a last s ≡ on state
  pub rest : records n W (a + 1 + arguments_at W a) (kind_of (get_or W a 0)) state ≡ accept u

pub next_record : (W : List ℕ) (n a last : ℕ) (s u : Snapshot) → a < length W → records (suc n) W a last s ≡ accept u → Next_record W n a last s u
unfolding records
next_record W n a last s u h e =
    by_next (step_at W a last s)
    (λ r q. let f : refuse r a ≡ accept u = rw (records, lt-ltb _ _ h, q) at e in refuse_not f)
    (λ t q. record { state = t; step = q; rest = rw (records, lt-ltb _ _ h, q) at e })

pub first_record : (W : List ℕ) (n a last : ℕ) (s u : Snapshot) → a < length W → length W ≤ n + a → records n W a last s ≡ accept u
    → (m : ℕ) × (length W ≤ m + (a + 1 + arguments_at W a)) × Next_record W m a last s u
first_record W zero a last s u h g e = absurd (omega arith)
first_record W (suc n) a last s u h g e = (n, omega arith, next_record W n a last s u h e)

-- and one that is taken, with its kind and its arguments
pub records_take : (X : List ℕ) (n b next : ℕ) (s t : Snapshot) → b < length X → step_at X b next s ≡ on t → {m k : ℕ} → arguments_at X b ≡ m
    → kind_of (get_or X b 0) ≡ k → records (suc n) X b next s ≡ records n X (b + 1 + m) k t
unfolding records
records_take X n b next s t h e {m} {k} p q =
    let f : records (suc n) X b next s ≡ records n X (b + 1 + arguments_at X b) (kind_of (get_or X b 0)) t = rw (records, lt-ltb _ _ h, e) in
    f ∙ ap (λ j. records n X (b + 1 + j) (kind_of (get_or X b 0)) t) p ∙ ap (λ j. records n X (b + 1 + m) j t) q

-- the records that are left, over other words and after other scopes
module _ (W X : List ℕ) (m : ℕ → ℕ) (R : List Scope → List Scope → Type 0) (low : ℕ)
    (keep : low ≤ 9 → (xs ys : List Scope) (y : Scope) → R xs ys → any (same_entry y) xs ≡ false
    → (any (same_entry y) ys ≡ false) × R (xs ++ (y ∷ [])) (ys ++ (moved_scope m y ∷ [])))
    (nine : 9 ≤ low)
  where
    abbrev Moved : ℕ → ℕ → ℕ → Snapshot → List Scope → Snapshot → Type 0
    Moved n b next s ys u = (zs : List Scope) × R u.scopes zs × (records n X b next (with_scopes m s ys) ≡ accept (with_scopes m u zs))

    moved_end : (n a b next : ℕ) (s u : Snapshot) (ys : List Scope) → length X ≤ b → R s.scopes ys → finish (length W) s ≡ accept u
        → Moved n b next s ys u
    moved_end n a b next s u ys h rel e = (
      ys,
      subst (λ (x : Snapshot). R x.scopes ys) (finish_accepts (length W) s u e).0 rel,
      records_end X b next (with_scopes m s ys) n h ∙ finish_moved m (length W) (length X) s u ys e,
    )

    pub run_moved : (n a b last next : ℕ) (s u : Snapshot) (ys : List Scope) → low ≤ last → next ≤ last
        → ((i : ℕ) → get_or X (b + i) 0 ≡ get_or W (a + i) 0) → ((i : ℕ) → b + i ≡ m (a + i)) → length X + a ≡ length W + b → length W ≤ n + a
        → R s.scopes ys → records n W a last s ≡ accept u → Moved n b next s ys u
    unfolding records
    run_moved zero a b last next s u ys l o same to long enough rel e =
        moved_end zero a b next s u ys (omega arith) rel e
    run_moved (suc n) a b last next s u ys l o same to long enough rel e =
        by_test (ltb a (length W))
        (λ c.
        let h : a < length W = ltb-true a (length W) c in
        let hx : b < length X = omega arith in
        let r = next_record W n a last s u h e in
        let k = taking W a last s r.state r.step in
        let rise : last ≤ kind_of (get_or W a 0) = follows_rise last (kind_of (get_or W a 0)) k.order (λ x y. omega arith) in
        let w = taking_within W a last s r.state k h in
        let at : b ≡ m a = sym (add-zero b) ∙ to 0 ∙ ap m (add-zero a) in
        let q = step_moved W X m R low keep a b at (λ z. absurd (omega arith)) s r.state ys (λ i z. same i) rel (omega arith) last next
        (follows_other last (kind_of (get_or W a 0)) k.order next (omega arith)) (omega arith) r.step in
        let f = same_head W X a b 0 (λ i z. same i) in
        let g : kind_of (get_or X b 0) ≡ kind_of (get_or W a 0) = ap kind_of f in
        let v : arguments_at X b ≡ arguments_at W a = ap (λ w. arguments_of (kind_of w) (pay_of w)) f in
        let p = run_moved n (a + 1 + arguments_at W a) (b + 1 + arguments_at W a) (kind_of (get_or W a 0)) (kind_of (get_or W a 0)) r.state u q.0
        (omega arith) (omega arith)
        (λ i. let x : b + 1 + arguments_at W a + i ≡ b + (1 + arguments_at W a + i) = omega arith in
        let y : a + (1 + arguments_at W a + i) ≡ a + 1 + arguments_at W a + i = omega arith in
        ap (λ z. get_or X z 0) x ∙ same (1 + arguments_at W a + i) ∙ ap (λ z. get_or W z 0) y)
        (λ i. let x : b + 1 + arguments_at W a + i ≡ b + (1 + arguments_at W a + i) = omega arith in
        let y : a + (1 + arguments_at W a + i) ≡ a + 1 + arguments_at W a + i = omega arith in
        x ∙ to (1 + arguments_at W a + i) ∙ ap m y)
        (omega arith) (omega arith) q.1 r.rest in (
          p.0,
          p.1,
          ◌∙◌ {b = records n X (b + 1 + arguments_at W a) (kind_of (get_or W a 0)) (with_scopes m r.state q.0)}
              (records_take X n b next (with_scopes m s ys) (with_scopes m r.state q.0) hx q.2 v g) p.2,
        ))
        (λ c.
        let h : length W ≤ a = ltb-false a (length W) c in
        moved_end (suc n) a b next s u ys (omega arith) rel (sym (records_end W a last s (suc n) h) ∙ e))

-- what stands before does not matter, where it is not higher
pub records_after : (W : List ℕ) (n a last m : ℕ) (s u : Snapshot) → (a < length W → m ≤ kind_of (get_or W a 0)) → records n W a last s ≡ accept u
    → records n W a m s ≡ accept u
unfolding records
records_after W zero a last m s u h e = e
records_after W (suc n) a last m s u h e =
    by_test (ltb a (length W))
    (λ c.
    let g = ltb-true a (length W) c in
    let r = next_record W n a last s u g e in
    let k = taking W a last s r.state r.step in
    let o = follows_other last (kind_of (get_or W a 0)) k.order m (h g) in
    let t = taken_step W a m s r.state (record { order = o; whole = k.whole; step = k.step }) in
    records_take W n a m s r.state g t refl refl ∙ r.rest)
    (λ c. let g = ltb-false a (length W) c in records_end W a m s (suc n) g ∙ sym (records_end W a last s (suc n) g) ∙ e)

-- Records of a kind above that of scopes leave all that a scope record is asked for.

abbrev pub base : Snapshot → Snapshot
base s =
    record {
      names = s.names;
      crates = s.crates;
      dependencies = s.dependencies;
      maps = s.maps;
      modules = s.modules;
      children = s.children;
      preludes = s.preludes;
      definitions = s.definitions;
      scopes = s.scopes;
      imports = [];
      externs = [];
      members = [];
    }

import_base_lem : (s t : Snapshot) (x : Import) → import_step s x ≡ on t → base t ≡ base s
unfolding import_step
import_base_lem s t x e = sym (ap base (judge_on (import_range x) (import_defined (counts_of s) x) false (ns_placed s x.ns x.definition)
    true (add_import s x) t e).same)

extern_base_lem : (s t : Snapshot) (x : Extern) → extern_step s x ≡ on t → base t ≡ base s
unfolding extern_step
extern_base_lem s t x e = sym (ap base (judge_on true (extern_defined (counts_of s) x) (any (same_extern x) s.externs) true true
    (add_extern s x) t e).same)

member_base_lem : (s t : Snapshot) (x : Member) → member_step s x ≡ on t → base t ≡ base s
unfolding member_step
member_base_lem s t x e =
    sym (ap base (judge_on (member_range x) (member_defined (counts_of s) x) false (member_placed s x) true (add_member s x) t e).same)

late_base : (W : List ℕ) (a k : ℕ) (s t : Snapshot) → 10 ≤ k → record_step k W a s ≡ on t → base t ≡ base s
unfolding record_step
late_base W a k s t h e =
    let n : (m : ℕ) → m < 10 → eqb k m ≡ false = λ m l. ne_eqb k m (λ x. omega arith) in
    let n1 = n 1 (omega arith) in
    let n2 = n 2 (omega arith) in
    let n3 = n 3 (omega arith) in
    let n4 = n 4 (omega arith) in
    let n5 = n 5 (omega arith) in
    let n6 = n 6 (omega arith) in
    let n7 = n 7 (omega arith) in
    let n8 = n 8 (omega arith) in
    let n9 = n 9 (omega arith) in
    by_test (eqb k 10)
    (λ c. import_base_lem s t (import_at W a) (rw (record_step, n1, n2, n3, n4, n5, n6, n7, n8, n9, c) at e))
    (λ n10. by_test (eqb k 11)
    (λ c. extern_base_lem s t (extern_at W a) (rw (record_step, n1, n2, n3, n4, n5, n6, n7, n8, n9, n10, c) at e))
    (λ c. member_base_lem s t (member_at W a) (rw (record_step, n1, n2, n3, n4, n5, n6, n7, n8, n9, n10, c) at e)))

pub run_late : (W : List ℕ) (n a last : ℕ) (s u : Snapshot) → 10 ≤ last → length W ≤ n + a → records n W a last s ≡ accept u → base u ≡ base s
unfolding records
run_late W zero a last s u h m e = sym (ap base (records_done W zero a last s u (omega arith) e))
run_late W (suc n) a last s u h m e =
    by_test (ltb a (length W))
    (λ c.
    let r = next_record W n a last s u (ltb-true a (length W) c) e in
    let k = taking W a last s r.state r.step in
    let rise : last ≤ kind_of (get_or W a 0) = follows_rise last (kind_of (get_or W a 0)) k.order (λ x y. omega arith) in
    run_late W n (a + 1 + arguments_at W a) (kind_of (get_or W a 0)) r.state u (omega arith) (omega arith) r.rest
    ∙ late_base W a (kind_of (get_or W a 0)) s r.state (omega arith) k.step)
    (λ c. sym (ap base (records_done W (suc n) a last s u (ltb-false a (length W) c) e)))
