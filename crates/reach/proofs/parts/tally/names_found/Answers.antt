use Rattle.reach.proofs.parts.Laws.{found_names, other_names}
use Rattle.reach.proofs.parts.tally.names_found.Goals as goal

pub returns-then-r : goal.returns-then-r
returns-then-r c = found_names _ c.if-r.true

pub returns : goal.returns
returns c = other_names _ c.if-r.false
