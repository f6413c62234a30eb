use mathlib.Core.Path.{sym, ap, ◌∙◌}
use Rattle.snapshot.specs.Records.{scope_at}
use Rattle.hir_def.specs.Entries.{entry_of}
use Rattle.any_path.proofs.seen_entries.Laws.{declared_fits, both_not, both_alone, both_declared}
use Rattle.accept.specs.Opened.{snap_in}
use Rattle.any_path.proofs.seen_entries.entries.both_hold.Goals as goal

pub returns-in_default : goal.returns-in_default
returns-in_default c =
    let W = c.args.view.now.db.records.words.now in
    both_alone (snap_in c.args.view.now.db) (scope_at c.args.view.now.db.records.words.now c.args.h)
    c.args.view.now.from.0 (sym c.holds_at.ensures ∙ c.if-holds_at.true)
    (sym c.declaration_of.ensures ∙ ap (entry_of scope_at W) c.in_default.is)

pub holds_at-requires-then-holds_at : goal.holds_at-requires-then-holds_at
holds_at-requires-then-holds_at c =
    let W = c.args.view.now.db.records.words.now in
    declared_fits W c.args.view.now.db.area.now c.args.view.now.db.records.layout c.args.view.now.db.reads
    (scope_at c.args.view.now.db.records.words.now c.args.h) _
    (sym c.declaration_of.ensures ∙ ap (entry_of scope_at W) c.in-Some.is)

pub returns-then-holds_at : goal.returns-then-holds_at
returns-then-holds_at c =
    let W = c.args.view.now.db.records.words.now in
    c.holds_at-then-holds_at.ensures
    ∙ both_declared (snap_in c.args.view.now.db) (scope_at c.args.view.now.db.records.words.now c.args.h)
    c.args.view.now.from.0 _ (sym c.holds_at.ensures
    ∙ c.if-holds_at.true) (sym c.declaration_of.ensures
    ∙ ap (entry_of scope_at W) c.in-Some.is)

pub returns : goal.returns
returns c =
    both_not (snap_in c.args.view.now.db) (scope_at c.args.view.now.db.records.words.now c.args.h)
    c.args.view.now.from.0 (sym c.holds_at.ensures ∙ c.if-holds_at.false)
