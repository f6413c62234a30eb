use mathlib.Core.Path.{ap}
use mathlib.Core.Bool.{not}
use native.Mathlib.Omega.{arith}
use Rattle.accept.proofs.Turns.{arguments_few}
use Rattle.join.proofs.records.Laws.{store_start, store_next, counted, counted_space, counted_as, stored, space_small, space_room, space_fits}
use Rattle.join.proofs.records.Laws.{stored_size}
use Rattle.join.proofs.records.write.put_record.Goals as goal

pub overflow_add-n : goal.overflow_add-n
overflow_add-n c = omega (arith, arguments_few c.args.second.now.words.now c.args.at _ c.arguments-n.ensures)

pub overflow_add-result : goal.overflow_add-result
overflow_add-result c = omega (arith, space_small _ _ (counted_space _ c.requires c.arguments-n.ensures))

pub returns-then-not-write : goal.returns-then-not-write
returns-then-not-write c = counted_as _ c.arguments-n.ensures (counted _ _ (ap not c.if-not-write.true))

pub loop-i-init : goal.loop-i-init
loop-i-init c = (omega arith, store_start _ c.args.target.now c.args.to)

pub moved_word-requires : goal.moved_word-requires
moved_word-requires c =
    let q = counted_space _ c.requires c.arguments-n.ensures in
    space_fits _ _ q (ap not c.if-not-write.false) c.loop-i.i c.loop-i-test.true

pub overflow_cast-target : goal.overflow_cast-target
overflow_cast-target c =
    let i = c.loop-i-test.true in
    let q = counted_space _ c.requires c.arguments-n.ensures in
    let h = space_fits _ _ q (ap not c.if-not-write.false) c.loop-i.i i in
    let e = c.moved_word.ensures in
    omega arith

pub overflow_add-target : goal.overflow_add-target
overflow_add-target c = omega (arith, c.loop-i-test.true, space_small _ _ (counted_space _ c.requires c.arguments-n.ensures))

pub offset_bounds-target-to : goal.offset_bounds-target-to
offset_bounds-target-to c =
    let i = c.loop-i-test.true in
    let q = counted_space _ c.requires c.arguments-n.ensures in
    let h = space_room _ _ q (ap not c.if-not-write.false) in
    let z = stored_size _ _ q (ap not c.if-not-write.false) c.loop-i.i c.loop-i.invariant.1 in
    omega arith

pub bounds-target-to : goal.bounds-target-to
bounds-target-to c =
    let i = c.loop-i-test.true in
    let q = counted_space _ c.requires c.arguments-n.ensures in
    let h = space_room _ _ q (ap not c.if-not-write.false) in
    let z = stored_size _ _ q (ap not c.if-not-write.false) c.loop-i.i c.loop-i.invariant.1 in
    omega arith

pub loop-i-preserved : goal.loop-i-preserved
loop-i-preserved c =
    let i = c.loop-i-test.true in
    (omega arith, store_next _ c.args.target.now c.args.to c.loop-i.i _ c.loop-i.invariant.1 c.moved_word.ensures)

pub overflow_add-result-2 : goal.overflow_add-result-2
overflow_add-result-2 c = omega (arith, space_small _ _ (counted_space _ c.requires c.arguments-n.ensures))

pub returns : goal.returns
returns c =
    counted_as _ c.arguments-n.ensures
    (stored _ _ c.loop-i.i c.args.target.now (ap not c.if-not-write.false) c.loop-i.invariant.0 c.loop-i-test.false c.loop-i.invariant.1)
