use Prim.Native.Nat.{ℕ, zero, suc, ◌-◌, ◌*◌, ◌≤◌, ◌<◌}
use mathlib.Core.Path.{◌≡◌}
use mathlib.Core.Bool.{true, ◌||◌}
use native.Mathlib.Omega.{arith}
use lib.Dec.{leb}
use borrow.Author.Tests.{le-leb}
use Rattle.check_records.proofs.record_rules.Indexed.{key_small}
use Rattle.check_records.proofs.records.Linked.{records_start, records_hit, records_less, records_miss, records_end, row_met}
use Rattle.check_records.proofs.records.repeats.repeated_with.Goals as goal

some : (fields : ℕ) → 1 ≤ fields → (leb 1 fields || true) ≡ true
some fields h = rw (le-leb 1 fields h)

-- a number is at most its multiple

small_by : (size j : ℕ) {f : ℕ} → f < size → j ≤ size * j
small_by zero j h = absurd (omega arith)
small_by (suc size) j h = omega arith

pub overflow_add-heads : goal.overflow_add-heads
overflow_add-heads c = (let h = key_small _ c.requires.key_value.0 in let p = c.requires.count_in_bounds in omega arith)

pub loop-k-init : goal.loop-k-init
loop-k-init c =
    records_start c.args.words.now c.args.area.now c.args.fields c.args.at c.args.base c.args.size
    c.args.count c.args.heads c.args.links c.requires.chained c.requires.key_value.0 c.requires.key_value.3 c.requires.key_value.4 c.word-k.ensures

pub overflow_mul-size : goal.overflow_mul-size
overflow_mul-size c =
    let b = c.requires.count_in_bounds in
    omega (arith, row_met c.args.base c.args.size c.loop-k.invariant.within c.loop-k-test.true b.0 b.3, b.2)

pub overflow_add-base : goal.overflow_add-base
overflow_add-base c =
    let b = c.requires.count_in_bounds in
    omega (arith, row_met c.args.base c.args.size c.loop-k.invariant.within c.loop-k-test.true b.0 b.3, b.2)

pub same-requires : goal.same-requires
same-requires c =
    let b = c.requires.count_in_bounds in (
      row_met c.args.base c.args.size c.loop-k.invariant.within c.loop-k-test.true b.0 b.3,
      c.requires.key_value.4,
      some c.args.fields c.requires.key_value.3,
      c.payload-last.ensures,
    )

pub returns-then-same : goal.returns-then-same
returns-then-same c =
    let l = c.loop-k in
    records_hit c.args.words.now c.args.area.now c.args.fields c.args.at c.args.base c.args.size
    c.args.count c.args.heads c.args.links c.requires.chained c.requires.key_value.0 c.requires.key_value.3 c.requires.key_value.4 l.k
    l.invariant c.loop-k-test.true c.same.ensures c.if-same.true

pub overflow_add-links : goal.overflow_add-links
overflow_add-links c =
    let b = c.requires.count_in_bounds in
    let l = c.loop-k in
    omega (
      arith,
      row_met c.args.base c.args.size l.invariant.within c.loop-k-test.true b.0 b.3,
      small_by c.args.size (l.k - 1) b.3,
      b.2,
      c.requires.key_value.2,
    )

pub loop-k-smaller : goal.loop-k-smaller
loop-k-smaller c =
    let l = c.loop-k in
    records_less c.args.words.now c.args.area.now c.args.fields c.args.at c.args.base c.args.size
    c.args.count c.args.heads c.args.links c.requires.chained c.requires.key_value.0 c.requires.key_value.3 c.requires.key_value.4 l.k
    l.invariant c.loop-k-test.true c.same.ensures c.word-k-in-loop-k.ensures

pub loop-k-preserved : goal.loop-k-preserved
loop-k-preserved c =
    let l = c.loop-k in
    records_miss c.args.words.now c.args.area.now c.args.fields c.args.at c.args.base c.args.size
    c.args.count c.args.heads c.args.links c.requires.chained c.requires.key_value.0 c.requires.key_value.3 c.requires.key_value.4 l.k
    l.invariant c.loop-k-test.true c.same.ensures
    c.word-k-in-loop-k.ensures c.if-same.false

pub returns : goal.returns
returns c =
    let l = c.loop-k in
    records_end c.args.words.now c.args.area.now c.args.fields c.args.at c.args.base c.args.size
    c.args.count c.args.heads c.args.links c.requires.chained c.requires.key_value.0 c.requires.key_value.3 c.requires.key_value.4 l.k
    l.invariant c.loop-k-test.false
