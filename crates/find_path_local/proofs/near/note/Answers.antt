use native.Mathlib.Omega.{arith}
use Rattle.find_path_local.specs.near.Numbers.{failures_at}
use Rattle.find_path_local.proofs.near.Falling.{scratched_set}
use Rattle.find_path_local.proofs.near.note.Goals as goal

pub returns : goal.returns
returns c = scratched_set c.args.top c.args.area.now failures_at _ c.requires.0 (omega arith)
