use mathlib.Core.Path.{sym, ap, ◌∙◌}
use Rattle.std.proofs.Common.{rules}
use Rattle.snapshot.specs.Records.{scope_at}
use Rattle.hir_def.specs.Entries.{entry_of}
use Rattle.read_back.proofs.Found.{from_fits}
use Rattle.read_back.proofs.Cases.{first_entry, first_outer}
use Rattle.accept.specs.Opened.{snap_in}
use Rattle.read_back.proofs.names.first_name.Goals as goal

pub meaning-requires : goal.meaning-requires
meaning-requires c =
    (from_fits c.args.view.now.db.records.words.now c.args.view.now.db.area.now c.args.view.now.db.records.layout c.args.view.now.db.reads _ _ _ _
    (sym (ap (entry_of scope_at c.args.view.now.db.records.words.now) c.in-Some.is) ∙ c.entry_from.ensures)).inside

pub returns-in-Some : goal.returns-in-Some
returns-in-Some c =
    first_entry (snap_in c.args.view.now.db) c.args.view.now.from.0 c.args.ns c.args.name.0
    (sym c.entry_from.ensures ∙ ap (entry_of scope_at c.args.view.now.db.records.words.now)
    c.in-Some.is) c.meaning.ensures

pub returns : goal.returns
returns c =
    first_outer (snap_in c.args.view.now.db) c.args.view.now.from.0 c.args.ns c.args.name.0 c.in_externs.result c.or_else.result
    c.or_else.ensures (sym c.entry_from.ensures ∙ ap (entry_of scope_at c.args.view.now.db.records.words.now) c.in_default.is)
    c.in_externs.ensures (λ p. search rules)
