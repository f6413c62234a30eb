use mathlib.Core.Path.{ap, ap₂, ◌∙◌}
use mathlib.Core.Bool.{◌&&◌}
use lib.Dec.{eqb}
use Rattle.hir_def.proofs.crate_graph.is_extern.Goals as goal

pub returns : goal.returns
returns c =
    ap₂ ◌&&◌ (c.eq.ensures ∙ ap (λ o. eqb o c.args.c.0) c.extern_owner.ensures)
    (c.eq-2.ensures ∙ ap (λ t. eqb t c.args.m.0) c.extern_target.ensures)
