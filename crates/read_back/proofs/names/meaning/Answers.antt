use mathlib.Core.Path.{ap, ◌∙◌}
use Rattle.snapshot.specs.Records.{scope_at}
use Rattle.snapshot.specs.Visibilities.{visibility_kind, visibility_number}
use Rattle.module_tree.proofs.rules.Visible.{visible_by, number_within}
use Rattle.module_tree.specs.rules.Visibility.{is_visible_from}
use Rattle.read_back.proofs.Cases.{meaning_seen, meaning_hidden}
use Rattle.accept.specs.Opened.{snap_in}
use Rattle.read_back.proofs.names.meaning.Goals as goal

pub is_visible_from-requires : goal.is_visible_from-requires
is_visible_from-requires c = (
  c.args.view.now.inside,
  rw c.scope_seen.ensures (number_within _ _ c.requires),
)

pub returns-then-is_visible_from : goal.returns-then-is_visible_from
returns-then-is_visible_from c =
    let n = snap_in c.args.view.now.db in
    meaning_seen n c.args.view.now.from.0 (scope_at c.args.view.now.db.records.words.now c.args.h) (c.is_visible_from.ensures
    ∙ ap (λ w. is_visible_from n (visibility_kind w) (visibility_number w) c.args.view.now.from.0) c.scope_seen.ensures ∙ visible_by n _ _ _)
    c.if-is_visible_from.true (c.item_at.ensures c.args.view.now.db.area.now)

pub returns : goal.returns
returns c =
    let n = snap_in c.args.view.now.db in
    meaning_hidden n c.args.view.now.from.0 (scope_at c.args.view.now.db.records.words.now c.args.h) (c.is_visible_from.ensures
    ∙ ap (λ w. is_visible_from n (visibility_kind w) (visibility_number w) c.args.view.now.from.0) c.scope_seen.ensures ∙ visible_by n _ _ _)
    c.if-is_visible_from.false
