-- The fold over accepted words, parted at the first record at which a test holds.
use Prim.Native.Nat.{ℕ, zero, suc, ◌+◌, ◌≤◌, ◌<◌}
use mathlib.Core.Path.{◌≡◌, refl, sym, ◌∙◌, ap, ap₂, subst}
use mathlib.Core.List.{List, [], ◌∷◌, ◌++◌, map-id}
use mathlib.Core.Bool.{Bool, true, false}
use native.Mathlib.Omega.{arith}
use lib.Dec.{leb, ltb}
use lib.ListN.{length, get_or}
use borrow.Author.Tests.{ltb-true, ltb-false, leb-true, le-leb}
use Rattle.snapshot.specs.Lists.{any}
use Rattle.snapshot.specs.Limits.{word_limit}
use Rattle.snapshot.specs.Refusals.{words_refusal}
use Rattle.snapshot.specs.Words.{kind_of, pay_of, arguments_of, arguments_at}
use Rattle.snapshot.specs.Records.{Snapshot}
use Rattle.check_rules.specs.Tests.{same_entry}
use Rattle.check_rules.specs.Steps.{on}
use Rattle.check_rules.specs.Verdict.{step_at, refuse, accept, records, empty, verdict}
use Rattle.accept.proofs.Accepted.{by_test}
use Rattle.edit_rules.specs.Entries.{with_lists, with_scopes, first_from}
use Rattle.edit_rules.proofs.scope_edits.Stepped.{Taking, taking, taking_within, step_moved}
use Rattle.edit_rules.proofs.scope_edits.Folded.{next_record, records_take}

-- nothing moved
pub with_same : (s : Snapshot) → with_scopes (λ n. n) s s.scopes ≡ s
with_same s = ap₂ (with_lists s s.scopes) (map-id s.imports) (map-id s.externs)

-- a record that stands in other words at the same place
pub step_same : (W X : List ℕ) (a last : ℕ) (s t : Snapshot) → ((i : ℕ) → i ≤ arguments_at W a → get_or X (a + i) 0 ≡ get_or W (a + i) 0)
    → a + 1 + arguments_at W a ≤ length X → step_at W a last s ≡ on t → step_at X a last s ≡ on t
step_same W X a last s t same fits e =
    let q = taking W a last s t e in
    let m = step_moved W X (λ n. n) (λ xs ys. xs ≡ ys) 0
    (λ h xs ys y f g. (subst (λ l. any (same_entry y) l ≡ false) f g, ap (λ l. l ++ (y ∷ [])) f))
    a a refl (λ z. refl) s t s.scopes same refl (omega arith) last last q.order fits e in
    ap (step_at X a last) (sym (with_same s)) ∙ m.2 ∙ ap (λ zs. on (with_scopes (λ n. n) t zs)) (sym m.1) ∙ ap on (with_same t)

pub record Split (W : List ℕ) (u : Snapshot) (stop : ℕ → Bool) (K : ℕ → Snapshot → Type 0) (a last : ℕ) (s : Snapshot) (p : ℕ) : Type 0 where
  -- the fold at the place
  pub fuel : ℕ
  pub before : ℕ
  pub state : Snapshot
  pub enough : length W ≤ fuel + p
  pub reached : a ≤ p
  pub within : p ≤ length W
  pub stopped : p < length W → stop p ≡ true
  pub holds : K before state
  pub rest : records fuel W p before state ≡ accept u
  -- it goes the same way over other words that are the same up to there
  pub same : (X : List ℕ) → ((i : ℕ) → i < p → get_or X i 0 ≡ get_or W i 0) → p ≤ length X → (n : ℕ) → length X ≤ n + a
      → (m : ℕ) × (length X ≤ m + p) × (records n X a last s ≡ records m X p before state)

module _ (W : List ℕ) (u : Snapshot) (stop : ℕ → Bool) (K : ℕ → Snapshot → Type 0)
    (kept : (a last : ℕ) (s t : Snapshot) → stop a ≡ false → Taking W a last s t → K last s → K (kind_of (get_or W a 0)) t)
  where
    split_here : (n a last : ℕ) (s : Snapshot) → records n W a last s ≡ accept u → length W ≤ n + a → a ≤ length W
        → (a < length W → stop a ≡ true) → K last s → Split W u stop K a last s a
    split_here n a last s e enough within stopped k =
        record {
          fuel = n;
          before = last;
          state = s;
          enough = enough;
          reached = omega arith;
          within = within;
          stopped = stopped;
          holds = k;
          rest = e;
          same = λ X agree long m more. (m, more, refl);
        }

    go_on_lem : (a last p : ℕ) (s t : Snapshot) → a < length W → step_at W a last s ≡ on t
        → Split W u stop K (a + 1 + arguments_at W a) (kind_of (get_or W a 0)) t p → Split W u stop K a last s p
    go_on_lem a last p s t h e r =
        record {
          fuel = r.fuel;
          before = r.before;
          state = r.state;
          enough = r.enough;
          reached = omega (arith, r.reached);
          within = r.within;
          stopped = r.stopped;
          holds = r.holds;
          rest = r.rest;
          same = over;
        }
      where
        over : (X : List ℕ) → ((i : ℕ) → i < p → get_or X i 0 ≡ get_or W i 0) → p ≤ length X → (n : ℕ) → length X ≤ n + a
            → (m : ℕ) × (length X ≤ m + p) × (records n X a last s ≡ records m X p r.before r.state)
        over X agree long zero more = absurd (omega (arith, r.reached))
        over X agree long (suc n) more =
            let o = r.reached in
            let step = step_same W X a last s t (λ i k. agree (a + i) (omega arith)) (omega arith) e in
            let f : get_or X a 0 ≡ get_or W a 0 = agree a (omega arith) in
            let q = r.same X agree long n (omega arith) in
            (q.0, q.1, records_take X n a last s t (omega arith) step (ap (λ w. arguments_of (kind_of w) (pay_of w)) f) (ap kind_of f) ∙ q.2)

    pub split : (n a last : ℕ) (s : Snapshot) → records n W a last s ≡ accept u → length W ≤ n + a → a ≤ length W → K last s
        → Split W u stop K a last s (first_from stop n W a)
    unfolding first_from
    split zero a last s e enough within k = split_here zero a last s e enough within (λ h. absurd (omega arith)) k
    split (suc n) a last s e enough within k =
        by_test (ltb a (length W))
        (λ c. by_test (stop a)
        (λ d. let p : first_from stop (suc n) W a ≡ a = rw (first_from, c, d) in
        subst (λ p. Split W u stop K a last s p) (sym p) (split_here (suc n) a last s e enough within (λ h. d) k))
        (λ d.
        let h = ltb-true a (length W) c in
        let p : first_from stop (suc n) W a ≡ first_from stop n W (a + 1 + arguments_at W a) = rw (first_from, c, d) in
        let r = next_record W n a last s u h e in
        let t = taking W a last s r.state r.step in
        subst (λ p. Split W u stop K a last s p) (sym p)
        (go_on_lem a last (first_from stop n W (a + 1 + arguments_at W a)) s r.state h r.step
        (split n (a + 1 + arguments_at W a) (kind_of (get_or W a 0)) r.state r.rest (omega arith) (taking_within W a last s r.state t h)
        (kept a last s r.state d t k)))))
        (λ c.
        let h = ltb-false a (length W) c in
        let p : first_from stop (suc n) W a ≡ a = rw (first_from, c) in
        subst (λ p. Split W u stop K a last s p) (sym p) (split_here (suc n) a last s e enough within (λ g. absurd (omega arith)) k))

-- a verdict that accepts is that of the fold
pub verdict_records : (W : List ℕ) (u : Snapshot) → verdict W ≡ accept u → (length W ≤ word_limit) × (records (length W) W 0 0 empty ≡ accept u)
unfolding verdict
verdict_records W u e =
    by_test (leb (length W) word_limit)
    (λ c. (leb-true (length W) word_limit c, rw (verdict, c) at e))
    (λ c. let f : refuse words_refusal word_limit ≡ accept u = rw (verdict, c) at e in let z : ◌≡◌ {A = ℕ} 0 1 = cc in absurd (omega arith))

pub verdict_is : (W : List ℕ) → length W ≤ word_limit → verdict W ≡ records (length W) W 0 0 empty
unfolding verdict
verdict_is W h = rw (verdict, le-leb (length W) word_limit h)
