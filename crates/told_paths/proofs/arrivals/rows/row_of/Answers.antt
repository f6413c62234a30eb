use native.Mathlib.Omega.{arith}
use Rattle.told_paths.specs.arrivals.Steps.{LeadsTo}
use Rattle.told_paths.proofs.arrivals.Steps.{way_start, way_hit, way_miss, way_none}
use Rattle.told_paths.proofs.arrivals.rows.row_of.Goals as goal

pub loop-i-init : goal.loop-i-init
loop-i-init c = way_start c.args.area.now _ _

pub returns-then-word-m : goal.returns-then-word-m
unfolding LeadsTo
returns-then-word-m c =
    way_hit c.args.area.now _ _ _ c.loop-i.invariant c.loop-i-test.true c.word.ensures c.if-word-m.true
    c.word-then-word-m.ensures
    c.word-then-word-m-2.ensures c.word-then-word-m-3.ensures

pub loop-i-preserved : goal.loop-i-preserved
loop-i-preserved c =
    way_miss c.args.area.now _ _ _ c.loop-i.invariant c.loop-i-test.true c.word.ensures c.if-word-m.false

pub returns : goal.returns
unfolding LeadsTo
returns c =
    λ z from modules run. way_none c.args.area.now _ _ _ c.loop-i.invariant (omega (arith, c.loop-i-test.false))
