use mathlib.Core.Path.{refl, sym, ap, ◌∙◌}
use Rattle.snapshot.specs.Records.{scope_at}
use Rattle.hir_def.specs.Entries.{entry_of}
use Rattle.hir_def.specs.Items.{ns_of}
use Rattle.told_paths.specs.arrivals.Steps.{LeadsTo}
use Rattle.told_paths.proofs.arrivals.Means.{ready_few, ready_meant, leads_plain, leads_past}
use Rattle.told_paths.proofs.arrivals.arrivals.plainly.Goals as goal

pub returns-in-Some : goal.returns-in-Some
unfolding LeadsTo
returns-in-Some c =
    leads_plain c.args.view.now _ c.requires _ _ refl
    (sym (ap (entry_of scope_at c.args.view.now.db.records.words.now) c.in-Some.is) ∙ c.plain_entry.ensures) c.scope_name-name.ensures

pub by_rows-requires : goal.by_rows-requires
by_rows-requires c = (
  ready_few c.args.view.now _ c.requires,
  ready_meant c.args.view.now _ c.requires,
)

pub returns : goal.returns
unfolding ns_of
returns c =
    leads_past c.args.view.now _ c.requires _ _ refl _
    (sym (ap (entry_of scope_at c.args.view.now.db.records.words.now) c.in_default.is) ∙ c.plain_entry.ensures) c.by_rows.ensures
