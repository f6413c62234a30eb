-- No word of a snapshot is the head of a question, so that the printer's questions begin behind it.
use Prim.Native.Nat.{ℕ, zero, suc, ◌+◌, ◌≤◌, ◌<◌}
use mathlib.Core.Path.{◌≡◌, ◌∙◌, ap, ap₂}
use mathlib.Core.List.{List}
use mathlib.Core.Bool.{true, false, ◌&&◌, not}
use native.Mathlib.Omega.{arith}
use borrow.Author.Tests.{eqb-true, eqb-false, ltb-true, ltb-false, leb-true, ne_eqb, not-true}
use lib.Dec.{eqb, ltb, leb}
use lib.ListN.{length, get_or}
use Rattle.snapshot.specs.Limits.{word_limit}
use Rattle.snapshot.specs.Refusals.{words_refusal, form_refusal}
use Rattle.snapshot.specs.Words.{kind_of, arguments_at}
use Rattle.snapshot.specs.Records.{Snapshot}
use Rattle.check_rules.specs.Steps.{no, on}
use Rattle.check_rules.specs.Verdict.{follows, arguments_from, step_at, refuse, accept, records, empty, verdict}
use Rattle.accept.proofs.Accepted.{by_test, by_next}
use Rattle.accept.proofs.Bools.{and_left, and_right}
use Rattle.printer.specs.Printed.{is_head, first_from}

-- no head of a question stands at a place
abbrev pub Free : List ℕ → ℕ → Type 0
Free W i = is_head (kind_of (get_or W i 0)) ≡ false

not_head : (k : ℕ) → (k ≡ 12 → ⊥) → k ≤ 13 → is_head k ≡ false
not_head k n h =
    let a : eqb k 12 ≡ false = ne_eqb k 12 n in
    let b : eqb k 14 ≡ false = ne_eqb k 14 (λ e. omega (arith, e, h)) in
    let c : eqb k 15 ≡ false = ne_eqb k 15 (λ e. omega (arith, e, h)) in
    rw (a, b, c)

follows_free : (last k : ℕ) → follows last k ≡ true → is_head k ≡ false
follows_free last k e =
    let a = and_left (leb 1 k && leb k 13 && not (eqb k 12)) _ e in
    let b = and_right (leb 1 k && leb k 13) (not (eqb k 12)) a in
    let c = and_left (leb 1 k && leb k 13) (not (eqb k 12)) a in
    not_head k (eqb-false k 12 (not-true (eqb k 12) b)) (leb-true k 13 (and_right (leb 1 k) (leb k 13) c))

arguments_free : (W : List ℕ) (n at i : ℕ) → arguments_from W at n ≡ true → at ≤ i → i < at + n → Free W i
unfolding arguments_from
arguments_free W zero at i e h g = absurd (omega (arith, h, g))
arguments_free W (suc n) at i e h g =
    let a = and_left (ltb at (length W) && eqb (kind_of (get_or W at 0)) 0) (arguments_from W (at + 1) n) e in
    let b = and_right (ltb at (length W) && eqb (kind_of (get_or W at 0)) 0) (arguments_from W (at + 1) n) e in
    let z : kind_of (get_or W at 0) ≡ 0 = eqb-true _ 0 (and_right (ltb at (length W)) (eqb (kind_of (get_or W at 0)) 0) a) in
    by_test (eqb i at)
    (λ t. let q : i ≡ at = eqb-true i at t in ap (λ j. is_head (kind_of (get_or W j 0))) q ∙ ap is_head z)
    (λ t. let q = eqb-false i at t in arguments_free W n (at + 1) i b (omega (arith, h, q)) (omega (arith, g)))

-- a record that was taken
step_free : (W : List ℕ) (at last i : ℕ) (s u : Snapshot) → step_at W at last s ≡ on u → at ≤ i → i < at + 1 + arguments_at W at → Free W i
unfolding step_at
step_free W at last i s u e h g =
    by_test (follows last (kind_of (get_or W at 0)))
    (λ a. by_test (arguments_from W (at + 1) (arguments_at W at))
    (λ b. by_test (eqb i at)
    (λ t. let q : i ≡ at = eqb-true i at t in ap (λ j. is_head (kind_of (get_or W j 0))) q ∙ follows_free last (kind_of (get_or W at 0)) a)
    (λ t. let q = eqb-false i at t in arguments_free W (arguments_at W at) (at + 1) i b (omega (arith, h, q)) g))
    (λ b. let f : no form_refusal ≡ on u = rw (step_at, a, b) at e in let z : ◌≡◌ {A = ℕ} 0 1 = cc in absurd (omega arith)))
    (λ a. let f : no form_refusal ≡ on u = rw (step_at, a) at e in let z : ◌≡◌ {A = ℕ} 0 1 = cc in absurd (omega arith))

records_free : (W : List ℕ) (n at last i : ℕ) (s u : Snapshot) → records n W at last s ≡ accept u → length W ≤ n + at → at ≤ i
    → i < length W → Free W i
unfolding records
records_free W zero at last i s u e m h g = absurd (omega (arith, m, h, g))
records_free W (suc n) at last i s u e m h g =
    by_test (ltb at (length W))
    (λ a. by_next (step_at W at last s)
    (λ r q. let f : refuse r at ≡ accept u = rw (records, a, q) at e in let z : ◌≡◌ {A = ℕ} 0 1 = cc in absurd (omega arith))
    (λ t q. by_test (ltb i (at + 1 + arguments_at W at))
    (λ b. step_free W at last i s t q h (ltb-true _ _ b))
    (λ b. records_free W n (at + 1 + arguments_at W at) (kind_of (get_or W at 0)) i t u (rw (records, a, q) at e) (omega (arith, m))
    (ltb-false _ _ b) g)))
    (λ a. absurd (omega (arith, ltb-false at (length W) a, h, g)))

-- No word of an accepted snapshot is the head of a question.
pub accepted_free : (W : List ℕ) (s : Snapshot) → verdict W ≡ accept s → (i : ℕ) → i < length W → Free W i
unfolding verdict
accepted_free W s e i h =
    by_test (leb (length W) word_limit)
    (λ a. records_free W (length W) 0 0 i empty s (rw (verdict, a) at e) (omega arith) (omega arith) h)
    (λ a. let f : refuse words_refusal word_limit ≡ accept s = rw (verdict, a) at e in let z : ◌≡◌ {A = ℕ} 0 1 = cc in absurd (omega arith))

-- k words without a head of a question are passed over
pub first_skips : (T : List ℕ) (k n i : ℕ) → ((j : ℕ) → i ≤ j → j < i + k → Free T j) → first_from T i (k + n) ≡ first_from T (i + k) n
unfolding first_from
first_skips T zero n i f =
    let p : i ≡ i + 0 = omega arith in
    let r : 0 + n ≡ n = omega arith in
    ap₂ (λ j k. first_from T j k) p r
first_skips T (suc k) n i f =
    let z = f i (omega arith) (omega arith) in
    let r : suc k + n ≡ suc (k + n) = omega arith in
    let p : i + 1 + k ≡ i + suc k = omega arith in
    ap (first_from T i) r
    ∙ rw (first_from, z) (first_skips T k n (i + 1) (λ j h g. f j (omega arith) (omega arith)) ∙ ap (λ j. first_from T j n) p)
