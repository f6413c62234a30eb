use mathlib.Core.Path.{ap, ◌∙◌}
use Rattle.hir_def.proofs.items.origin_of.Goals as goal

pub returns : goal.returns
returns c = λ A. c.crate_origin.ensures ∙ ap (λ x. x.origin) (c.crate_head.ensures A)
