-- The words of an accepted input are below 2^32: a head is of kind 13 at most, an argument of kind 0.
use Prim.Native.Nat.{ℕ, zero, suc, ◌+◌, ◌^◌, ◌≤◌, ◌<◌}
use mathlib.Core.Path.{◌≡◌, ap}
use mathlib.Core.List.{List}
use mathlib.Core.Bool.{true}
use native.Mathlib.Omega.{arith}
use borrow.Author.Tests.{ltb-true, ltb-false, leb-true, leb-false, eqb-true, eqb-false}
use lib.Dec.{eqb, leb, ltb}
use lib.ListN.{length, get_or}
use Rattle.snapshot.specs.Words.{kind_of, arguments_at}
use Rattle.snapshot.specs.Records.{Snapshot}
use Rattle.check_rules.specs.Verdict.{accept, arguments_from, records, empty, verdict}
use Rattle.accept.proofs.Accepted.{by_test}
use Rattle.accept.proofs.Bools.{and_three}
use Rattle.edit_rules.proofs.scope_edits.Stepped.{taking, follows_parts}
use Rattle.edit_rules.proofs.scope_edits.Folded.{next_record}
use Rattle.edit_rules.proofs.scope_edits.Split.{verdict_records}

abbrev Low : List ℕ → ℕ → Type 0
Low W n = (i : ℕ) → i < n → i < length W → get_or W i 0 < 2 ^ 32

arguments_low : (W : List ℕ) (n at : ℕ) → arguments_from W at n ≡ true → (i : ℕ) → at ≤ i → i < at + n → get_or W i 0 < 2 ^ 32
unfolding arguments_from
arguments_low W zero at e i a b = absurd (omega arith)
arguments_low W (suc n) at e i a b =
    let p = and_three (ltb at (length W)) (eqb (kind_of (get_or W at 0)) 0) (arguments_from W (at + 1) n) e in
    by_test (eqb i at)
    (λ q.
    let z = ap (λ j. get_or W j 0) (eqb-true i at q) in
    let k = eqb-true (kind_of (get_or W at 0)) 0 p.1 in
    omega arith)
    (λ q. let o = eqb-false i at q in arguments_low W n (at + 1) p.2 i (by_less o a) (omega arith))
  where
    by_less : (i ≡ at → ⊥) → at ≤ i → at + 1 ≤ i
    by_less o h = by_test (leb (at + 1) i) (λ c. leb-true (at + 1) i c) (λ c. absurd (o (let g = leb-false (at + 1) i c in omega arith)))

low_more : (W : List ℕ) (at last : ℕ) → Low W at → kind_of (get_or W at 0) ≤ 13 → arguments_from W (at + 1) (arguments_at W at) ≡ true
    → Low W (at + 1 + arguments_at W at)
low_more W at last h k e i a l =
    by_test (ltb i at)
    (λ b. h i (ltb-true i at b) l)
    (λ b.
    by_test (eqb i at)
    (λ q. let z = ap (λ j. get_or W j 0) (eqb-true i at q) in omega arith)
    (λ q.
    let g = ltb-false i at b in
    by_test (leb (at + 1) i)
    (λ c. arguments_low W (arguments_at W at) (at + 1) e i (leb-true (at + 1) i c) a)
    (λ c. let d = leb-false (at + 1) i c in absurd (eqb-false i at q (omega arith)))))

records_low : (W : List ℕ) (u : Snapshot) (n at last : ℕ) (s : Snapshot) → records n W at last s ≡ accept u → length W ≤ n + at → Low W at
    → Low W (length W)
records_low W u zero at last s e enough h = λ i a l. h i (omega arith) l
records_low W u (suc n) at last s e enough h =
    by_test (ltb at (length W))
    (λ c.
    let r = next_record W n at last s u (ltb-true at (length W) c) e in
    let q = taking W at last s r.state r.step in
    let k = leb-true (kind_of (get_or W at 0)) 13 (follows_parts last (kind_of (get_or W at 0)) q.order).1 in
    records_low W u n (at + 1 + arguments_at W at) (kind_of (get_or W at 0)) r.state r.rest (omega arith) (low_more W at last h k q.whole))
    (λ c i a l. h i (let g = ltb-false at (length W) c in omega arith) l)

pub accepted_low : (W : List ℕ) (s : Snapshot) → verdict W ≡ accept s → (i : ℕ) → i < length W → get_or W i 0 < 2 ^ 32
accepted_low W s e i l =
    let r = verdict_records W s e in
    records_low W s (length W) 0 0 empty r.1 (omega arith) (λ j a b. absurd (omega arith)) i l l
