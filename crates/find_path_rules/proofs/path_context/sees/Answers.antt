use mathlib.Core.Path.{ap, ◌∙◌}
use Rattle.snapshot.specs.Visibilities.{visibility_kind, visibility_number}
use Rattle.module_tree.proofs.rules.Visible.{visible_by, number_within}
use Rattle.module_tree.specs.rules.Visibility.{is_visible_from}
use Rattle.accept.specs.Opened.{snap_in}
use Rattle.find_path_rules.proofs.path_context.sees.Goals as goal

pub is_visible_from-requires : goal.is_visible_from-requires
is_visible_from-requires c = (
  c.requires.0,
  rw c.scope_seen.ensures (number_within _ _ c.requires.1),
)

pub returns : goal.returns
returns c =
    let n = snap_in c.args.db.now in
    c.is_visible_from.ensures
    ∙ ap (λ w. is_visible_from n (visibility_kind w) (visibility_number w) c.args.x.from.0) c.scope_seen.ensures ∙ visible_by n _ _ _
