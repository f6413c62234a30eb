use mathlib.Core.Path.{sym, ◌∙◌}
use native.Mathlib.Omega.{arith}
use borrow.Author.Tests.{eq-eqb, ne_eqb}
use Rattle.snapshot.specs.Lists.{any}
use Rattle.snapshot.proofs.Laws.{rows_whole, any_hit, any_miss, any_none}
use Rattle.check_records.proofs.module_records.modules.has_module.Goals as goal

pub loop-m-init : goal.loop-m-init
loop-m-init c = (omega arith, rows_whole (any _) _ _)

pub returns-then-module_map-map : goal.returns-then-module_map-map
returns-then-module_map-map c =
    let l = c.loop-m in
    any_hit _ _ _ _ _ l.invariant.1 (omega arith) (eq-eqb _ _ (sym c.module_map.ensures ∙ c.if-module_map-map.true))

pub loop-m-preserved : goal.loop-m-preserved
loop-m-preserved c =
    let l = c.loop-m in
    (omega arith, any_miss _ _ _ _ _ l.invariant.1 (omega arith) (ne_eqb _ _ (λ e. c.if-module_map-map.false (c.module_map.ensures ∙ e))))

pub returns : goal.returns
returns c = any_none _ _ _ _ _ c.loop-m.invariant.1 (omega arith)
