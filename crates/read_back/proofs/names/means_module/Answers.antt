use mathlib.Core.Path.{refl}
use Rattle.read_back.proofs.names.means_module.Goals as goal

pub returns : goal.returns
returns c = refl
