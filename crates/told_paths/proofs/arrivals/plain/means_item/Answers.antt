use mathlib.Core.Path.{ap, ◌∙◌}
use Rattle.std.specs.Prelude.{Some}
use Rattle.told_paths.proofs.arrivals.Means.{means_scope, means_extern, means_nothing}
use Rattle.accept.specs.Opened.{snap_in}
use Rattle.told_paths.proofs.arrivals.plain.means_item.Goals as goal

pub returns-in-Some-Scope : goal.returns-in-Some-Scope
returns-in-Some-Scope c =
    means_scope (snap_in c.args.view.now.db) c.args.view.now.db.records.words.now c.args.view.now.from.0
    c.args.ns.0 c.args.d.0 c.args.name.0 c.read_plain.ensures _ (c.in-Some-Scope.is ∙ ap Some c.in-Some-Scope.field-0-is)
    (c.is_entry_for.ensures c.args.view.now.db.area.now)

pub returns-in-Some-Extern : goal.returns-in-Some-Extern
returns-in-Some-Extern c =
    means_extern (snap_in c.args.view.now.db) c.args.view.now.db.records.words.now c.args.view.now.from.0
    c.args.ns.0 c.args.d.0 c.args.name.0 c.read_plain.ensures _ (c.in-Some-Extern.is ∙ ap Some c.in-Some-Extern.field-0-is)

pub returns-in-None : goal.returns-in-None
returns-in-None c =
    means_nothing (snap_in c.args.view.now.db) c.args.view.now.db.records.words.now c.args.view.now.from.0
    c.args.ns.0 c.args.d.0 c.args.name.0 c.read_plain.ensures c.in-None.is
