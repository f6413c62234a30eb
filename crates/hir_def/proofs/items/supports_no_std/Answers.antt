use mathlib.Core.Path.{ap, ◌∙◌}
use lib.Dec.{eqb}
use Rattle.hir_def.proofs.items.supports_no_std.Goals as goal

pub returns : goal.returns
returns c = λ A. ap (λ n. eqb n 1) (c.crate_no_std.ensures ∙ ap (λ x. x.no_std) (c.crate_head.ensures A))
