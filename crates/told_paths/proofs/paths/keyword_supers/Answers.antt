use mathlib.Core.Path.{◌∙◌}
use Rattle.told_paths.proofs.Unwound.{supers_of_number}
use Rattle.told_paths.proofs.paths.keyword_supers.Goals as goal

pub returns : goal.returns
returns c = c.saturating_sub.ensures ∙ supers_of_number _
