use mathlib.Core.Path.{sym, ap, ◌∙◌}
use Rattle.std.specs.Prelude.{None}
use Rattle.snapshot.specs.Records.{scope_at}
use Rattle.hir_def.specs.Entries.{entry_of}
use Rattle.hir_def.proofs.Fits.{get_fits}
use Rattle.read_back.proofs.Cases.{entry_none, entry_some}
use Rattle.accept.specs.Opened.{snap_in}
use Rattle.read_back.proofs.names.in_scope.Goals as goal

pub returns-in_err-h : goal.returns-in_err-h
returns-in_err-h c =
    c.from_residual.ensures
    ∙ entry_none (snap_in c.args.view.now.db) c.args.view.now.from.0 None
    (sym (c.get.ensures c.args.view.now.db.area.now) ∙ ap (entry_of scope_at c.args.view.now.db.records.words.now) c.in_err-h.was)

pub meaning-requires : goal.meaning-requires
meaning-requires c =
    (get_fits c.args.view.now.db.records.words.now c.args.view.now.db.area.now c.args.view.now.db.records.layout c.args.view.now.db.reads _ _ _ _
    (sym (sym (c.get.ensures c.args.view.now.db.area.now) ∙ ap (entry_of scope_at c.args.view.now.db.records.words.now) c.in_ok-h.was))).inside

pub returns : goal.returns
returns c =
    entry_some (snap_in c.args.view.now.db) c.args.view.now.from.0 None
    (sym (c.get.ensures c.args.view.now.db.area.now) ∙ ap (entry_of scope_at c.args.view.now.db.records.words.now) c.in_ok-h.was)
    c.meaning.ensures
