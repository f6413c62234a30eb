use Rattle.lookups.proofs.Laws.{reads}
use Rattle.lookups.proofs.cases.judge.Goals as goal

pub invariant_of-db : goal.invariant_of-db
invariant_of-db g c = record { reads = reads _ _ _ _ _ c.in-Ok.is c.check.ensures }
