use mathlib.Core.Path.{refl, ap}
use mathlib.Core.Bool.{not}
use Prim.Native.Nat.{◌+◌, ◌-◌}
use native.Mathlib.Omega.{arith}
use lib.ListN.{get_or}
use Rattle.join.proofs.records.Laws.{store_start, store_next, counted, stored, space_small, space_room, stored_size}
use Rattle.join.proofs.records.write.copy.Goals as goal

pub overflow_add-result : goal.overflow_add-result
overflow_add-result c = let h = space_small (λ j. get_or c.args.words.now (c.args.from + j) 0)
    (c.args.end - c.args.from) c.requires.2 in omega arith

pub returns-then-not-write : goal.returns-then-not-write
returns-then-not-write c = counted (λ j. get_or c.args.words.now (c.args.from + j) 0) (c.args.end - c.args.from) (ap not c.if-not-write.true)

pub loop-i-init : goal.loop-i-init
loop-i-init c = (omega arith, store_start (λ j. get_or c.args.words.now (c.args.from + j) 0) c.args.target.now c.args.to)

pub overflow_add-target : goal.overflow_add-target
overflow_add-target c = omega (arith, c.requires.0, c.requires.1, c.loop-i-test.true)

pub bounds-words-from : goal.bounds-words-from
bounds-words-from c = omega (arith, c.requires.0, c.requires.1, c.loop-i-test.true)

pub overflow_add-target-in-loop-i : goal.overflow_add-target-in-loop-i
overflow_add-target-in-loop-i c =
    let h = space_small (λ j. get_or c.args.words.now (c.args.from + j) 0) (c.args.end - c.args.from) c.requires.2 in
    let i = c.loop-i-test.true in
    omega arith

pub offset_bounds-target-to : goal.offset_bounds-target-to
offset_bounds-target-to c =
    let h = space_room (λ j. get_or c.args.words.now (c.args.from + j) 0) (c.args.end - c.args.from) c.requires.2 (ap not c.if-not-write.false) in
    let z = stored_size (λ j. get_or c.args.words.now (c.args.from + j) 0) (c.args.end - c.args.from) c.requires.2
    (ap not c.if-not-write.false) c.loop-i.i c.loop-i.invariant.1 in
    let i = c.loop-i-test.true in
    omega arith

pub bounds-target-to : goal.bounds-target-to
bounds-target-to c =
    let h = space_room (λ j. get_or c.args.words.now (c.args.from + j) 0) (c.args.end - c.args.from) c.requires.2 (ap not c.if-not-write.false) in
    let z = stored_size (λ j. get_or c.args.words.now (c.args.from + j) 0) (c.args.end - c.args.from) c.requires.2
    (ap not c.if-not-write.false) c.loop-i.i c.loop-i.invariant.1 in
    let i = c.loop-i-test.true in
    omega arith

pub loop-i-preserved : goal.loop-i-preserved
loop-i-preserved c =
    let i = c.loop-i-test.true in (
      omega arith,
      store_next (λ j. get_or c.args.words.now (c.args.from + j) 0) c.args.target.now c.args.to c.loop-i.i _ c.loop-i.invariant.1 refl,
    )

pub overflow_add-result-2 : goal.overflow_add-result-2
overflow_add-result-2 c = let h = space_small (λ j. get_or c.args.words.now (c.args.from + j) 0)
    (c.args.end - c.args.from) c.requires.2 in omega arith

pub returns : goal.returns
returns c =
    stored (λ j. get_or c.args.words.now (c.args.from + j) 0) (c.args.end - c.args.from) c.loop-i.i c.args.target.now
    (ap not c.if-not-write.false) c.loop-i.invariant.0 c.loop-i-test.false c.loop-i.invariant.1
