use native.Mathlib.Omega.{arith}
use Rattle.accept.proofs.Turns.{arguments_few}
use Rattle.join.proofs.records.Laws.{walking_start, walking_space, walking_next, walking_done}
use Rattle.join.proofs.records.write.put_moved.Goals as goal

pub loop-at-init : goal.loop-at-init
loop-at-init c =
    walking_start c.args.write c.args.second.now.area.now c.args.second.now.first c.args.second.now.words.now c.args.to c.args.target.now
    c.args.from c.args.end

pub put_kept-t-requires : goal.put_kept-t-requires
put_kept-t-requires c =
    walking_space c.loop-at.invariant c.loop-at-test.true c.requires.1

pub overflow_add-at-in-loop-at : goal.overflow_add-at-in-loop-at
overflow_add-at-in-loop-at c =
    let e = c.requires.0 in
    let h = c.loop-at-test.true in
    let k = arguments_few c.args.second.now.words.now c.loop-at.at _ c.arguments.ensures in
    omega arith

pub loop-at-preserved : goal.loop-at-preserved
loop-at-preserved c =
    walking_next c.loop-at.invariant c.loop-at-test.true c.put_kept-t.ensures
    c.arguments.ensures

pub returns : goal.returns
returns c = walking_done c.loop-at.invariant c.loop-at-test.false
