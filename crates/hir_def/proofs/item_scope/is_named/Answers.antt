use mathlib.Core.Path.{ap, ap₂, ◌∙◌}
use mathlib.Core.Bool.{◌&&◌}
use lib.Dec.{eqb}
use Rattle.hir_def.proofs.item_scope.is_named.Goals as goal

pub returns : goal.returns
returns c =
    ap₂ ◌&&◌ (c.eq.ensures ∙ ap (λ o. eqb o c.args.m.0) c.scope_owner.ensures)
    (ap₂ (λ n i. eqb n c.args.ns && i) c.scope_ns.ensures (c.eq-2.ensures ∙ ap (λ i. eqb i c.args.name.0) c.scope_name.ensures))
