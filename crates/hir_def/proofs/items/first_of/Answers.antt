use mathlib.Core.Path.{◌∙◌}
use Rattle.hir_def.proofs.items.first_of.Goals as goal

pub returns : goal.returns
returns c = λ A. c.definition_first.ensures ∙ (c.definition_head.ensures A).first
