use mathlib.Core.Path.{refl}
use Rattle.find_path_spec.specs.Report.{refused}
use Rattle.reports.proofs.refused.Goals as goal

pub returns : goal.returns
unfolding refused
returns c = refl
