use Rattle.snapshot.specs.Lists.{rows}
use Rattle.check_records.proofs.record_rules.names.is_builtin.Goals as goal

pub returns : goal.returns
unfolding rows
returns c = c.known.ensures
