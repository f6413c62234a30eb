use Rattle.snapshot.proofs.Laws.{any_hit, any_miss, any_none}
use mathlib.Core.Path.{sym, ◌∙◌}
use native.Mathlib.Omega.{arith}
use Rattle.check_records.proofs.records.repeats.repeated.Goals as goal

pub returns-then-same : goal.returns-then-same
returns-then-same c = any_hit _ _ _ _ _ c.loop-k.invariant (omega arith) (sym c.same.ensures ∙ c.if-same.true)

pub loop-k-preserved : goal.loop-k-preserved
loop-k-preserved c = any_miss _ _ _ _ _ c.loop-k.invariant (omega arith) (sym c.same.ensures ∙ c.if-same.false)

pub returns : goal.returns
returns c = any_none _ _ _ _ _ c.loop-k.invariant (omega arith)
