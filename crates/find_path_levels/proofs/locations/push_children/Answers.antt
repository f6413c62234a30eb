use mathlib.Core.Path.{refl, sym, ◌∙◌}
use native.Mathlib.Omega.{arith}
use borrow.Author.Tests.{eqb-false, eqb-true}
use Rattle.find_path_levels.proofs.Stacks.{pushing_start, pushing_skip, pushing_next, pushing_done}
use Rattle.find_path_levels.proofs.Nexts.{children_start, child_hit, child_miss, child_end, child_below}
use Rattle.find_path_levels.proofs.locations.push_children.Goals as goal
use Rattle.find_path_levels.proofs.locations.push_children.Goals.{then-eq, else-eq}

pub loop-k-init : goal.loop-k-init
loop-k-init c =
    pushing_skip _ _ _ _ _ (pushing_start c.args.area.now _ _ c.args.sought.item _ c.requires.1)
    (children_start c.args.records.now.words.now c.args.area.now c.args.records.now.layout c.args.from.0) refl refl

pub push_module-run-requires : goal.push_module-run-requires
push_module-run-requires c =
    let l = c.loop-k in (
      l.invariant.ready,
      child_below c.args.records.now.words.now c.args.area.now c.args.records.now.layout c.requires.0 c.loop-k-test.true
          c.child_base-base.ensures c.child_child-m.ensures,
    )

pub loop-k-preserved : goal.loop-k-preserved
loop-k-preserved c =
    let l = c.loop-k in
    let W = c.args.records.now.words.now in
    elim c.if-eq.branch [
      | then-eq w ↦ pushing_skip _ _ _ _ _ (pushing_next _ _ _ _ _ l.invariant (child_hit W c.args.records.now.layout c.args.from.0 l.k
          c.loop-k-test.true c.child_base-base.ensures c.child_owner.ensures (eqb-true _ _ (sym c.eq.ensures ∙ w.if-eq.true)) w.child_child-m.ensures)
          w.push_module-run.ensures w.push_module-run.auto.area) refl w.area-is w.run-is
      | else-eq w ↦ pushing_skip _ _ _ _ _ l.invariant (child_miss W c.args.records.now.layout c.args.from.0 l.k c.loop-k-test.true
          c.child_base-base.ensures c.child_owner.ensures (eqb-false _ _ (sym c.eq.ensures ∙ w.if-eq.false))) w.area-is w.run-is
    ]

pub returns : goal.returns
returns c =
    let l = c.loop-k in
    pushing_done _ _ _ _ _ l.invariant
    (child_end c.args.records.now.words.now c.args.records.now.layout c.args.from.0 l.k (omega (arith, c.loop-k-test.false)))
