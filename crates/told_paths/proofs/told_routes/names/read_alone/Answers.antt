use mathlib.Core.Path.{sym, ap, ◌∙◌}
use Rattle.std.specs.Prelude.{Some}
use Rattle.any_path.specs.Plain.{record_read}
use Rattle.told_paths.proofs.told_routes.Laws.{answers_as}
use Rattle.accept.specs.Opened.{snap_in}
use Rattle.told_paths.proofs.told_routes.names.read_alone.Goals as goal

pub returns-in_err-h : goal.returns-in_err-h
unfolding record_read
returns-in_err-h c =
    let S = snap_in c.args.view.now.db in
    answers_as (sym (ap (record_read S c.args.view.now.db.records.words.now) c.in_err-h.was) ∙ c.read_plain.ensures) c.from_residual.ensures

pub returns-in-Scope : goal.returns-in-Scope
unfolding record_read
returns-in-Scope c =
    let S = snap_in c.args.view.now.db in
    let read = c.in_ok-h.was ∙ ap Some c.in-Scope.is in
    answers_as (sym (ap (record_read S c.args.view.now.db.records.words.now) read) ∙ c.read_plain.ensures)
    (ap Some (c.by_entry-its.ensures c.args.view.now.db.area.now))

pub returns-in-Extern : goal.returns-in-Extern
unfolding record_read
returns-in-Extern c =
    let S = snap_in c.args.view.now.db in
    let read = c.in_ok-h.was ∙ ap Some c.in-Extern.is in
    answers_as (sym (ap (record_read S c.args.view.now.db.records.words.now) read) ∙ c.read_plain.ensures) (ap Some c.by_extern-its.ensures)
