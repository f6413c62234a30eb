use mathlib.Core.Path.{refl}
use Rattle.windows.specs.state.Words.{empty_row}
use Rattle.windows.proofs.state.rows.empty_row.Goals as goal

pub returns : goal.returns
unfolding empty_row
returns c = refl
