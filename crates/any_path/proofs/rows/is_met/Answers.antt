use native.Mathlib.Omega.{arith}
use Rattle.any_path.proofs.Written.{met_start, met_hit, met_miss, met_none}
use Rattle.any_path.proofs.rows.is_met.Goals as goal

pub loop-i-init : goal.loop-i-init
loop-i-init c =
    (omega arith, met_start c.args.area.now _ _)

pub returns-then-word-m : goal.returns-then-word-m
returns-then-word-m c =
    met_hit c.args.area.now _ _ _ c.loop-i.invariant.1 c.loop-i-test.true c.word.ensures c.if-word-m.true

pub loop-i-preserved : goal.loop-i-preserved
loop-i-preserved c =
    (omega arith, met_miss c.args.area.now _ _ _ c.loop-i.invariant.1 c.loop-i-test.true c.word.ensures c.if-word-m.false)

pub returns : goal.returns
returns c =
    met_none c.args.area.now _ _ _ c.loop-i.invariant.1 (omega (arith, c.loop-i-test.false))
