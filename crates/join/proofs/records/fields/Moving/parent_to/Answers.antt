use native.Mathlib.Omega.{arith}
use Rattle.join.proofs.records.Laws.{under, or_none_lem, or_some}
use Rattle.join.proofs.records.fields.Moving.parent_to.Goals as goal

pub returns-then-n-eq0 : goal.returns-then-n-eq0
returns-then-n-eq0 c = or_none_lem _ _ c.if-n-eq0.true

pub overflow_add-result : goal.overflow_add-result
overflow_add-result c = omega (arith, under (or_some c.args.self.now.first.modules c.args.n c.if-n-eq0.false) c.requires)

pub returns : goal.returns
returns c = or_some _ _ c.if-n-eq0.false
