use mathlib.Core.Path.{sym, ap, ◌∙◌}
use Rattle.std.specs.Prelude.{Some}
use Rattle.snapshot.specs.Records.{scope_at}
use Rattle.hir_def.specs.Entries.{entry_of}
use Rattle.told_paths.proofs.told_routes.Laws.{answers_as, entry_by}
use Rattle.accept.specs.Opened.{snap_in}
use Rattle.told_paths.proofs.told_routes.names.in_module.Goals as goal

pub returns-in_err-h : goal.returns-in_err-h
returns-in_err-h c =
    let S = snap_in c.args.view.now.db in
    answers_as (entry_by S c.args.view.now.from.0 c.args.ns c.args.m.0 c.args.name.0
    (sym (ap (entry_of scope_at c.args.view.now.db.records.words.now) c.in_err-h.was) ∙ c.entry_named.ensures))
    c.from_residual.ensures

pub returns : goal.returns
returns c =
    let S = snap_in c.args.view.now.db in
    answers_as (entry_by S c.args.view.now.from.0 c.args.ns c.args.m.0 c.args.name.0
    (sym (ap (entry_of scope_at c.args.view.now.db.records.words.now) c.in_ok-h.was) ∙ c.entry_named.ensures))
    (ap Some (c.by_entry.ensures c.args.view.now.db.area.now))
