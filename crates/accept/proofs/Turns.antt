-- One record, by its kind.
use Prim.Native.Nat.{ℕ, zero, suc, ◌+◌, ◌≤◌, ◌<◌}
use mathlib.Core.Path.{◌≡◌, refl, sym, ◌∙◌, ap, subst}
use mathlib.Core.List.{List}
use mathlib.Core.Bool.{Bool, true, false, ◌&&◌, ◌||◌, not, false≢true}
use native.Mathlib.Omega.{arith}
use lib.ListN.{length, get_or}
use lib.Dec.{eqb, leb, ltb, lit≤}
use borrow.Author.Tests.{ltb-true, leb-true, eqb-true}
use Rattle.std.specs.Prelude.{None}
use Rattle.snapshot.specs.Refusals.{form_refusal}
use Rattle.snapshot.specs.Kinds.{kind_with}
use Rattle.snapshot.proofs.KindLaws.{kind_unknown}
use Rattle.snapshot.specs.Words.{kind_of, pay_of, words_of, argument_table, arguments_of, arguments_at}
use Rattle.snapshot.specs.Sizes.{scope_size}
use Rattle.snapshot.specs.Records.{Map, Snapshot}
use Rattle.snapshot.specs.Layouts.{snap_with}
use Rattle.snapshot.specs.declared.layout.Layout.{Layout}
use Rattle.check_rules.specs.Steps.{Next, no, need}
use Rattle.check_rules.specs.Verdict.{follows, arguments_from, record_step, step_at}
use Rattle.check_records.specs.record_rules.Stands.{Here, Ready, Stands, Answered}
use Rattle.std.specs.Prelude.{Result}
use Rattle.snapshot.specs.declared.refusal.Refusal.{Refusal}
use Rattle.check_records.proofs.record_rules.Judged.{and_left, and_right}

pub answers_at : (W A : List ℕ) (r : Result Layout Refusal) {k j n m : ℕ} {x y : Next} → k ≡ j → n ≡ m → x ≡ y
    → Answered W A j m y r → Answered W A k n x r
answers_at W A r {k} {j} {n} {m} {x} {y} e f g a =
    subst (λ t. Answered W A t n x r) (sym e) (subst (λ t. Answered W A j t x r) (sym f) (subst (λ t. Answered W A j m t r) (sym g) a))

-- the place after a record of kind j
ends_at : (W : List ℕ) (at j : ℕ) {k next : ℕ} → k ≡ kind_of (get_or W at 0) → k ≡ j → at + 1 + arguments_of j (pay_of (get_or W at 0)) ≡ next
    → at + 1 + arguments_at W at ≡ next
ends_at W at j ek ej e = ap (λ x. at + 1 + arguments_of x (pay_of (get_or W at 0))) (sym ek ∙ ej) ∙ e

-- what the step of kind j asks and answers, in the terms of the record's own kind
module _ {W A : List ℕ} {l : Layout} {at k next : ℕ} (j : ℕ) (ek : k ≡ kind_of (get_or W at 0)) (ej : k ≡ j)
    (e : at + 1 + arguments_of j (pay_of (get_or W at 0)) ≡ next)
  where
    pub kind_ready : Ready W A l at (at + 1 + arguments_at W at) → Ready W A l at next
    kind_ready r = subst (λ x. Ready W A l at x) (ends_at W at j ek ej e) r

    pub kind_answers : (B : List ℕ) (r : Result Layout Refusal) → ((ms : List Map) → Stands W A j at l ms
        → Answered W B j next (record_step j W at (snap_with W A l ms)) r)
        → (ms : List Map) → Stands W A k at l ms → Answered W B k (at + 1 + arguments_at W at) (record_step k W at (snap_with W A l ms)) r
    kind_answers B r f ms st =
        answers_at W B r ej (ends_at W at j ek ej e) (ap (λ x. record_step x W at (snap_with W A l ms)) ej)
        (f ms (subst (λ x. Stands W A x at l ms) ej st))

-- one record of any kind
module _ (W : List ℕ) (at last : ℕ) (s : Snapshot) {k : ℕ} (ek : k ≡ kind_of (get_or W at 0)) where
  pub turn_kind : follows last k ≡ false → step_at W at last s ≡ no form_refusal
  unfolding step_at
  turn_kind h = ap (λ b. need b form_refusal (need (arguments_from W (at + 1) (arguments_at W at)) form_refusal
      (record_step (kind_of (get_or W at 0)) W at s))) (ap (follows last) (sym ek) ∙ h)

  turn_right : follows last k ≡ true → step_at W at last s ≡ need (arguments_from W (at + 1) (arguments_at W at)) form_refusal
      (record_step (kind_of (get_or W at 0)) W at s)
  unfolding step_at
  turn_right h = ap (λ b. need b form_refusal (need (arguments_from W (at + 1) (arguments_at W at)) form_refusal
      (record_step (kind_of (get_or W at 0)) W at s))) (ap (follows last) (sym ek) ∙ h)

  pub turn_arguments : {n : ℕ} → follows last k ≡ true → n ≡ arguments_at W at → arguments_from W (at + 1) n ≡ false
      → step_at W at last s ≡ no form_refusal
  turn_arguments h e g = turn_right h ∙ ap (λ b. need b form_refusal (record_step (kind_of (get_or W at 0)) W at s))
      (ap (arguments_from W (at + 1)) (sym e) ∙ g)

  pub turn_on : {n : ℕ} → follows last k ≡ true → n ≡ arguments_at W at → arguments_from W (at + 1) n ≡ true
      → step_at W at last s ≡ record_step k W at s
  turn_on h e g = turn_right h ∙ ap (λ b. need b form_refusal (record_step (kind_of (get_or W at 0)) W at s))
      (ap (arguments_from W (at + 1)) (sym e) ∙ g) ∙ ap (λ j. record_step j W at s) (sym ek)

-- a number that is no kind's
pub follows_none : (last k : ℕ) → kind_with k ≡ None → follows last k ≡ false
follows_none last k e = ap (λ b. b && (leb last k || eqb last 5 && eqb k 4)) (kind_unknown k e)

-- a record of a later kind, or a map after a module
rises : (last k : ℕ) → follows last k ≡ true → (t : ℕ) → (t ≡ 5 → ⊥) → k < t → last < t
rises last k h = by (leb last k) (eqb last 5) (eqb k 4) refl refl refl (and_right (leb 1 k && leb k 13 && not (eqb k 12))
    (leb last k || eqb last 5 && eqb k 4) h)
  where
    by : (a b c : Bool) → leb last k ≡ a → eqb last 5 ≡ b → eqb k 4 ≡ c → (a || b && c) ≡ true → (t : ℕ) → (t ≡ 5 → ⊥) → k < t → last < t
    by true b c p q r g t u v = let w : last ≤ k = leb-true last k p in omega arith
    by false true true p q r g t u v = let w : last ≡ 5 = eqb-true last 5 q in let x : k ≡ 4 = eqb-true k 4 r in omega arith
    by false true false p q r g t u v = absurd (false≢true g)
    by false false c p q r g t u v = absurd (false≢true g)

pub stands_up : (W A : List ℕ) (at : ℕ) (l : Layout) (ms : List Map) (last k : ℕ) → follows last k ≡ true → Stands W A last at l ms
    → Stands W A k at l ms
stands_up W A at l ms last k h st =
    let up = rises last k h in
    let u = st.upto in
    record {
      place = st.place;
      within = st.within;
      upto =
          record {
            crates = λ p. u.crates (up 2 (λ e. omega arith) p);
            dependencies = λ p. u.dependencies (up 3 (λ e. omega arith) p);
            maps = λ p. u.maps (up 4 (λ e. omega arith) p);
            modules = λ p. u.modules (up 4 (λ e. omega arith) p);
            children = λ p. u.children (up 6 (λ e. omega arith) p);
            preludes = λ p. u.preludes (up 7 (λ e. omega arith) p);
            definitions = λ p. u.definitions (up 8 (λ e. omega arith) p);
            scopes = λ p. u.scopes (up 9 (λ e. omega arith) p);
            imports = λ p. u.imports (up 10 (λ e. omega arith) p);
            externs = λ p. u.externs (up 11 (λ e. omega arith) p);
            members = λ p. u.members (up 13 (λ e. omega arith) p);
          };
      limited = st.limited;
      heads = st.heads;
      count = st.count;
      latest = st.latest;
      below = st.below;
      rising = st.rising;
      inside = st.inside;
      own = st.own;
      index = st.index;
    }

-- argument words that are there lie within the words
pub arguments_fit : (W : List ℕ) (i n : ℕ) → i ≤ length W → arguments_from W i n ≡ true → i + n ≤ length W
unfolding arguments_from
arguments_fit W i zero h e = omega arith
arguments_fit W i (suc n) h e =
    let p = ltb i (length W) in
    let q = eqb (kind_of (get_or W i 0)) 0 in
    let t = arguments_from W (i + 1) n in
    let b : i < length W = ltb-true _ _ (and_left p q (and_left (p && q) t e)) in
    let r : i + 1 + n ≤ length W = arguments_fit W (i + 1) n (omega arith) (and_right (p && q) t e) in
    omega arith

table_small : (k : ℕ) → get_or argument_table k 0 ≤ scope_size
table_small zero = lit≤ tt
table_small (suc zero) = lit≤ tt
table_small (suc (suc zero)) = lit≤ tt
table_small (suc (suc (suc zero))) = lit≤ tt
table_small (suc (suc (suc (suc zero)))) = lit≤ tt
table_small (suc (suc (suc (suc (suc zero))))) = lit≤ tt
table_small (suc (suc (suc (suc (suc (suc zero)))))) = lit≤ tt
table_small (suc (suc (suc (suc (suc (suc (suc zero))))))) = lit≤ tt
table_small (suc (suc (suc (suc (suc (suc (suc (suc zero)))))))) = lit≤ tt
table_small (suc (suc (suc (suc (suc (suc (suc (suc (suc zero))))))))) = lit≤ tt
table_small (suc (suc (suc (suc (suc (suc (suc (suc (suc (suc zero)))))))))) = lit≤ tt
table_small (suc (suc (suc (suc (suc (suc (suc (suc (suc (suc (suc zero))))))))))) = lit≤ tt
table_small (suc (suc (suc (suc (suc (suc (suc (suc (suc (suc (suc (suc zero)))))))))))) = lit≤ tt
table_small (suc (suc (suc (suc (suc (suc (suc (suc (suc (suc (suc (suc (suc zero))))))))))))) = lit≤ tt
table_small (suc (suc (suc (suc (suc (suc (suc (suc (suc (suc (suc (suc (suc (suc k)))))))))))))) = lit≤ tt

arguments_bound : (k w : ℕ) → arguments_of k (pay_of w) ≤ 268435456
unfolding arguments_of
arguments_bound k w = by (eqb k 1)
  where
    by : (b : Bool) → elim b [ true ↦ words_of (pay_of w) | false ↦ get_or argument_table k 0 ] ≤ 268435456
    by true = omega arith
    by false = let h = table_small k in omega arith

-- a record's arguments are few
pub arguments_few : (W : List ℕ) (at n : ℕ) → n ≡ arguments_at W at → n ≤ 268435456
arguments_few W at n e = let h = arguments_bound (kind_of (get_or W at 0)) (get_or W at 0) in omega arith

pub ready_for : (W A : List ℕ) (l : Layout) (at n : ℕ) → Here W A l at → n ≡ arguments_at W at → arguments_from W (at + 1) n ≡ true
    → Ready W A l at (at + 1 + arguments_at W at)
ready_for W A l at n h e g =
    let f = arguments_fit W (at + 1) n (let p = h.here in omega arith) g in
    record { place = h.place; fits = omega arith; short = h.short; room = h.room; limited = h.limited; index = h.index }
