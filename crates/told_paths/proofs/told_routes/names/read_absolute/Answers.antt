use mathlib.Core.Path.{refl, sym, ap, ◌∙◌}
use Rattle.std.specs.Prelude.{Some}
use Rattle.snapshot.specs.Records.{extern_at}
use Rattle.hir_def.specs.Entries.{entry_of}
use Rattle.told_paths.proofs.told_routes.Laws.{answers_as, absolute_old, absolute_other, absolute_by}
use Rattle.accept.specs.Opened.{snap_in}
use Rattle.told_paths.proofs.told_routes.names.read_absolute.Goals as goal

pub returns-then-edition_of-eq2015 : goal.returns-then-edition_of-eq2015
returns-then-edition_of-eq2015 c =
    let S = snap_in c.args.view.now.db in
    answers_as (absolute_old S c.args.view.now.from.0 c.args.ns c.args.name.0
    c.krate-c.ensures (c.edition_of.ensures c.args.view.now.db.area.now) c.if-edition_of-eq2015.true)
    refl

pub returns-then-ns-ne-TYPES : goal.returns-then-ns-ne-TYPES
returns-then-ns-ne-TYPES c =
    let S = snap_in c.args.view.now.db in
    answers_as (absolute_other S c.args.view.now.from.0 c.args.ns c.args.name.0
    c.krate-c.ensures (c.edition_of.ensures c.args.view.now.db.area.now) c.if-edition_of-eq2015.false c.if-ns-ne-TYPES.true)
    refl

pub returns-in_err-h : goal.returns-in_err-h
returns-in_err-h c =
    let S = snap_in c.args.view.now.db in
    let A = c.args.view.now.db.area.now in
    answers_as (absolute_by S c.args.view.now.from.0 c.args.ns c.args.name.0
    c.krate-c.ensures (c.edition_of.ensures A) c.if-edition_of-eq2015.false c.if-ns-ne-TYPES.false
    (sym (ap (entry_of extern_at c.args.view.now.db.records.words.now) c.in_err-h.was) ∙ c.extern_named.ensures A))
    c.from_residual.ensures

pub returns : goal.returns
returns c =
    let S = snap_in c.args.view.now.db in
    let A = c.args.view.now.db.area.now in
    answers_as (absolute_by S c.args.view.now.from.0 c.args.ns c.args.name.0
    c.krate-c.ensures (c.edition_of.ensures A) c.if-edition_of-eq2015.false c.if-ns-ne-TYPES.false
    (sym (ap (entry_of extern_at c.args.view.now.db.records.words.now) c.in_ok-h.was) ∙ c.extern_named.ensures A))
    (ap Some c.by_extern.ensures)
