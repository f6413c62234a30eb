use mathlib.Core.Path.{◌∙◌}
use Rattle.hir_def.proofs.Lookups.{names_name, names_name_reads}
use Rattle.hir_def.proofs.item_scope.name_of.Goals as goal

pub returns : goal.returns
returns c = (λ A. c.names_of.ensures.0 A ∙ names_name _ _ _, λ A. c.names_of.ensures.1 A ∙ names_name_reads _ _ _, c.names_of.ensures.2)
