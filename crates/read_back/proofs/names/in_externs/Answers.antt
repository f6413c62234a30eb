use mathlib.Core.Path.{sym, ap, ◌∙◌}
use Rattle.snapshot.specs.Records.{extern_at}
use Rattle.hir_def.specs.Entries.{entry_of}
use Rattle.read_back.proofs.Cases.{externs_other, externs_none, externs_some}
use Rattle.accept.specs.Opened.{snap_in}
use Rattle.read_back.proofs.names.in_externs.Goals as goal

pub returns-then-ns-ne-TYPES : goal.returns-then-ns-ne-TYPES
returns-then-ns-ne-TYPES c = externs_other _ _ _ _ c.if-ns-ne-TYPES.true

pub returns-in_err-h : goal.returns-in_err-h
returns-in_err-h c =
    c.from_residual.ensures
    ∙ externs_none (snap_in c.args.view.now.db) c.args.view.now.from.0 c.args.ns c.args.name.0
    c.if-ns-ne-TYPES.false c.krate.ensures (sym (c.extern_named.ensures c.args.view.now.db.area.now)
    ∙ ap (entry_of extern_at c.args.view.now.db.records.words.now) c.in_err-h.was)

pub returns : goal.returns
returns c =
    externs_some (snap_in c.args.view.now.db) c.args.view.now.from.0 c.args.ns c.args.name.0
    c.if-ns-ne-TYPES.false c.krate.ensures (sym (c.extern_named.ensures c.args.view.now.db.area.now)
    ∙ ap (entry_of extern_at c.args.view.now.db.records.words.now) c.in_ok-h.was) c.extern_target.ensures
    c.means_module.ensures
