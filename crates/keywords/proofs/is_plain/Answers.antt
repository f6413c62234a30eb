use Rattle.snapshot.specs.Lists.{rows}
use Rattle.keywords.proofs.is_plain.Goals as goal

pub returns : goal.returns
unfolding rows
returns c = c.known.ensures
