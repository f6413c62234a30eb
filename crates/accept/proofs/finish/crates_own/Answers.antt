use mathlib.Core.Path.{sym, ap, ◌∙◌}
use native.Mathlib.Omega.{arith}
use borrow.Author.Tests.{eq-eqb, ne_eqb}
use mathlib.Core.Bool.{not}
use Rattle.snapshot.specs.Lists.{all}
use Rattle.snapshot.proofs.Laws.{rows_whole, all_stop, all_go, all_end}
use Rattle.accept.proofs.finish.crates_own.Goals as goal

pub loop-c-init : goal.loop-c-init
loop-c-init c = (omega arith, rows_whole (all _) _ _)

pub returns-then-own_map-eq0 : goal.returns-then-own_map-eq0
returns-then-own_map-eq0 c =
    let l = c.loop-c in
    all_stop _ _ _ _ _ l.invariant.1 (omega arith) (ap not (eq-eqb _ _ (sym c.own_map.ensures ∙ c.if-own_map-eq0.true)))

pub loop-c-preserved : goal.loop-c-preserved
loop-c-preserved c =
    let l = c.loop-c in
    (omega arith, all_go _ _ _ _ _ l.invariant.1 (omega arith) (ap not (ne_eqb _ _ (λ e. c.if-own_map-eq0.false (c.own_map.ensures ∙ e)))))

pub returns : goal.returns
returns c = all_end _ _ _ _ _ c.loop-c.invariant.1 (omega arith)
