use mathlib.Core.Path.{sym, ◌∙◌}
use native.Mathlib.Omega.{arith}
use Rattle.snapshot.specs.Lists.{all}
use Rattle.snapshot.proofs.Laws.{rows_whole, all_stop, all_go, all_end}
use Rattle.accept.proofs.finish.maps_filled.Goals as goal

pub loop-k-init : goal.loop-k-init
loop-k-init c = (omega arith, rows_whole (all _) _ _)

pub returns-then-not-has_module : goal.returns-then-not-has_module
returns-then-not-has_module c =
    let l = c.loop-k in
    all_stop _ _ _ _ _ l.invariant.1 (omega arith) (sym c.has_module.ensures ∙ c.if-not-has_module.true)

pub loop-k-preserved : goal.loop-k-preserved
loop-k-preserved c =
    let l = c.loop-k in
    (omega arith, all_go _ _ _ _ _ l.invariant.1 (omega arith) (sym c.has_module.ensures ∙ c.if-not-has_module.false))

pub returns : goal.returns
returns c = all_end _ _ _ _ _ c.loop-k.invariant.1 (omega arith)
