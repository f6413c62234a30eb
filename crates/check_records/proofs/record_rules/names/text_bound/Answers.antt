use Rattle.check_rules.specs.Tests.{text_bound}
use Rattle.check_records.proofs.record_rules.Laws.{bound_rest}
use Rattle.check_records.proofs.record_rules.names.text_bound.Goals as goal

pub returns-then-b-eq0 : goal.returns-then-b-eq0
unfolding text_bound
returns-then-b-eq0 c = rw c.if-b-eq0.true

pub returns-then-b-eq1 : goal.returns-then-b-eq1
unfolding text_bound
returns-then-b-eq1 c = rw c.if-b-eq1.true

pub returns-then-b-eq2 : goal.returns-then-b-eq2
unfolding text_bound
returns-then-b-eq2 c = rw c.if-b-eq2.true

pub returns : goal.returns
returns c = bound_rest _ c.if-b-eq0.false c.if-b-eq1.false c.if-b-eq2.false
