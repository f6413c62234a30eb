use mathlib.Core.Path.{ap₂, ◌∙◌}
use Rattle.hir_def.specs.Items.{item_of}
use Rattle.snapshot.specs.Laid.{snap_by}
use Rattle.hir_def.proofs.items.item_at.Goals as goal

pub returns : goal.returns
returns c =
    λ A.
    c.item_of.ensures A ∙ ap₂ (item_of (snap_by c.args.records.now A)) c.scope_ns-ns.ensures
    c.scope_definition.ensures
