use mathlib.Core.Path.{◌∙◌}
use Rattle.hir_def.proofs.items.kind_of.Goals as goal

pub returns : goal.returns
returns c = λ A. c.definition_kind.ensures ∙ (c.definition_head.ensures A).kind
