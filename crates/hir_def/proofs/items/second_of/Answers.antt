use mathlib.Core.Path.{◌∙◌}
use Rattle.hir_def.proofs.items.second_of.Goals as goal

pub returns : goal.returns
returns c = λ A. c.definition_second.ensures ∙ (c.definition_head.ensures A).second
