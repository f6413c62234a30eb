use mathlib.Core.Path.{refl}
use Rattle.told_paths.specs.Tells.{told_long}
use Rattle.told_paths.proofs.paths.long.Goals as goal

pub returns : goal.returns
unfolding told_long
returns c = refl
