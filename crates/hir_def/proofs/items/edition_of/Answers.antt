use mathlib.Core.Path.{ap, ◌∙◌}
use Rattle.hir_def.proofs.items.edition_of.Goals as goal

pub returns : goal.returns
returns c = λ A. c.crate_edition.ensures ∙ ap (λ x. x.edition) (c.crate_head.ensures A)
