use mathlib.Core.Path.{ap, ◌∙◌}
use Rattle.snapshot.specs.Visibilities.{visibility_kind, visibility_number}
use Rattle.module_tree.proofs.rules.Visible.{number_within}
use Rattle.nameable.specs.Seen.{holds}
use Rattle.any_path.proofs.seen_entries.Laws.{holds_by}
use Rattle.accept.specs.Opened.{snap_in}
use Rattle.any_path.proofs.seen_entries.entries.holds_at.Goals as goal

pub holds-requires : goal.holds-requires
holds-requires c = rw c.scope_seen.ensures (number_within _ _ c.requires.inside)

pub returns : goal.returns
returns c =
    let n = snap_in c.args.view.now.db in
    c.holds.ensures ∙ ap (λ w. holds n (visibility_kind w) (visibility_number w) c.args.view.now.from.0) c.scope_seen.ensures
    ∙ holds_by n _ _ _
