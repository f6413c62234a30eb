use mathlib.Core.Path.{refl, ap, ◌∙◌, sym}
use borrow.Author.Tests.{eqb-false, eqb-true, not-false, not-true}
use Rattle.snapshot.specs.Records.{scope_at}
use Rattle.snapshot.specs.Visibilities.{visibility_kind, visibility_number}
use Rattle.module_tree.specs.rules.Visibility.{is_visible_from}
use Rattle.module_tree.proofs.rules.Visible.{visible_by, number_within}
use Rattle.find_path_levels.proofs.Nexts.{leads_no, leads_by}
use Rattle.accept.specs.Opened.{snap_in}
use Rattle.find_path_levels.proofs.locations.leads.Goals as goal

pub returns-then-ne : goal.returns-then-ne
returns-then-ne c =
    leads_no (snap_in c.args.db.now) c.args.from.0 c.args.to.0
    (scope_at c.args.db.now.records.words.now c.args.h) c.krate.ensures c.krate-2.ensures
    (eqb-false _ _ (not-true _ (sym c.ne.ensures ∙ c.if-ne.true)))

pub is_visible_from-requires : goal.is_visible_from-requires
is_visible_from-requires c = (
  c.requires.0,
  rw c.scope_seen.ensures (number_within _ _ c.requires.2),
)

pub returns : goal.returns
returns c =
    let n = snap_in c.args.db.now in
    leads_by n c.args.from.0 c.args.to.0
    (scope_at c.args.db.now.records.words.now c.args.h) c.krate.ensures c.krate-2.ensures
    (eqb-true _ _ (not-false _ (sym c.ne.ensures ∙ c.if-ne.false))) refl refl (c.is_visible_from.ensures
    ∙ ap (λ w. is_visible_from n (visibility_kind w) (visibility_number w) c.args.from.0) c.scope_seen.ensures ∙ visible_by n _ _ _)
