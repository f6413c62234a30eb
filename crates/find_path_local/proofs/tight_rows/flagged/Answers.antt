use mathlib.Core.Path.{refl}
use Rattle.find_path_local.specs.tight_rows.Rows.{flagged}
use Rattle.find_path_local.proofs.tight_rows.flagged.Goals as goal

pub returns : goal.returns
unfolding flagged
returns c = refl
