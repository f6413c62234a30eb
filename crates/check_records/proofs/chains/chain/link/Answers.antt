use mathlib.Core.Path.{refl}
use Rattle.check_records.specs.chains.Chains.{linked}
use Rattle.check_records.proofs.chains.chain.link.Goals as goal

pub returns : goal.returns
unfolding linked
returns c = refl
