use mathlib.Core.Path.{◌∙◌}
use Rattle.snapshot.specs.Lists.{any}
use Rattle.snapshot.proofs.Laws.{rows_whole, any_hit, any_miss, any_none}
use Rattle.hir_def.proofs.ItemTests.{item_eq}
use Rattle.reach.specs.parts.Reach.{is_met}
use Rattle.reach.proofs.parts.Laws.{met_test}
use Rattle.reach.proofs.parts.firsts.is_met.Goals as goal

pub loop-j-init : goal.loop-j-init
unfolding is_met
loop-j-init c = λ A. rows_whole (any _) _ _

pub returns-then-eq : goal.returns-then-eq
returns-then-eq c =
    λ A.
    let w = c.loop-j in
    any_hit _ _ _ _ _ (w.invariant A) c.loop-j-test.true
    (met_test c.args.records.now.words.now A c.args.records.now.layout w.j c.args.k c.scope_base-base.ensures (c.eq.ensures ∙ item_eq _ _)
    (c.item_at.ensures A) (c.item_at-item.ensures A) ∙ c.if-eq.true)

pub loop-j-preserved : goal.loop-j-preserved
loop-j-preserved c =
    λ A.
    let w = c.loop-j in
    any_miss _ _ _ _ _ (w.invariant A) c.loop-j-test.true
    (met_test c.args.records.now.words.now A c.args.records.now.layout w.j c.args.k c.scope_base-base.ensures (c.eq.ensures ∙ item_eq _ _)
    (c.item_at.ensures A) (c.item_at-item.ensures A) ∙ c.if-eq.false)

pub returns : goal.returns
returns c = λ A. any_none _ _ _ _ _ (c.loop-j.invariant A) c.loop-j-test.false
