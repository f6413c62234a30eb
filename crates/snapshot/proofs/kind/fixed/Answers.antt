use Rattle.snapshot.specs.Sizes.{argument_table}
use Rattle.snapshot.proofs.Laws.{past}
use Rattle.snapshot.proofs.kind.fixed.Goals as goal

pub returns-then-kind-ge14 : goal.returns-then-kind-ge14
returns-then-kind-ge14 c = past argument_table _ c.if-kind-ge14.true
