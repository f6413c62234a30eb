use mathlib.Core.Path.{subst}
use native.Mathlib.Omega.{arith}
use Rattle.hir_def.specs.Tests.{NextBy}
use Rattle.hir_def.proofs.Along.{on_first, on_more, on_next, on_hit}
use Rattle.hir_def.proofs.chain.next_in_chain.Goals as goal

pub loop-j-init : goal.loop-j-init
loop-j-init g c = on_first _ _ _ _ _ _ c.args.db.now.reads (goal.F-post g c.args.test) c.first_from-j.ensures

pub returns-then-test : goal.returns-then-test
unfolding NextBy
returns-then-test g c =
    let s = c.chained-span.ensures in
    on_hit _ _ _ _ _ _ c.args.db.now.reads (goal.F-post g c.args.test) c.loop-j.invariant s.starts s.sized s.counts c.loop-j-test.true
    (subst (goal.F-post g c.args.test _) c.if-test.true c.test.ensures)

pub loop-j-smaller : goal.loop-j-smaller
loop-j-smaller g c =
    let s = c.chained-span.ensures in
    let more = on_more _ _ _ _ _ _ c.args.db.now.reads (goal.F-post g c.args.test) c.loop-j.invariant s.starts s.sized s.counts c.loop-j-test.true
    c.links-links.ensures c.half-j.ensures.0 in
    omega (arith, c.loop-j-test.true, more)

pub loop-j-preserved : goal.loop-j-preserved
loop-j-preserved g c =
    let s = c.chained-span.ensures in
    on_next _ _ _ _ _ _ c.args.db.now.reads (goal.F-post g c.args.test) c.loop-j.invariant s.starts s.sized s.counts c.loop-j-test.true
    (subst (goal.F-post g c.args.test _) c.if-test.false c.test.ensures) c.links-links.ensures c.half-j.ensures.0

pub returns : goal.returns
unfolding NextBy
returns g c = λ i a b. c.loop-j.invariant.passed i a (omega (arith, b, c.loop-j-test.false, c.chained-span.ensures.counts))
