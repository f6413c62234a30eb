use mathlib.Core.Path.{sym, ap, ◌∙◌}
use Rattle.snapshot.specs.Records.{scope_at, prelude_at}
use Rattle.hir_def.specs.Entries.{entry_of}
use Rattle.hir_def.specs.Items.{defined_item}
use Rattle.told_paths.proofs.arrivals.Means.{prelude_none, prelude_some}
use Rattle.accept.specs.Opened.{snap_in}
use Rattle.told_paths.proofs.arrivals.plain.plain_in_prelude.Goals as goal

pub returns-in_err-p : goal.returns-in_err-p
returns-in_err-p c =
    (ap (entry_of scope_at c.args.view.now.db.records.words.now) c.from_residual.ensures)
    ∙ prelude_none (snap_in c.args.view.now.db) c.args.view.now.from.0
    (defined_item c.args.ns.0 c.args.d.0) c.map.ensures
    (sym (c.prelude_of.ensures c.args.view.now.db.area.now) ∙ ap (entry_of prelude_at c.args.view.now.db.records.words.now) c.in_err-p.was)

pub returns : goal.returns
returns c =
    prelude_some (snap_in c.args.view.now.db) c.args.view.now.from.0
    (defined_item c.args.ns.0 c.args.d.0) c.map.ensures
    (sym (c.prelude_of.ensures c.args.view.now.db.area.now) ∙ ap (entry_of prelude_at c.args.view.now.db.records.words.now) c.in_ok-p.was)
    c.prelude_target.ensures c.plain_in.ensures
