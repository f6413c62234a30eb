use mathlib.Core.Path.{sym, ap, ◌∙◌}
use Rattle.snapshot.specs.Records.{scope_at}
use Rattle.nameable.specs.Seen.{both_hold}
use Rattle.any_path.proofs.seen_entries.Laws.{seen_not, seen_so}
use Rattle.accept.specs.Opened.{snap_in}
use Rattle.any_path.proofs.seen_entries.entries.seen.Goals as goal

pub returns-then-both_hold : goal.returns-then-both_hold
returns-then-both_hold c =
    let n = (snap_in c.args.view.now.db) in
    let e = (scope_at c.args.view.now.db.records.words.now c.args.h) in
    c.both_hold-then-both_hold.ensures
    ∙ seen_so n e c.args.view.now.from.0 (ap (λ x. both_hold n x e) (sym c.scope_owner.ensures)
    ∙ sym c.both_hold.ensures ∙ c.if-both_hold.true)

pub returns : goal.returns
returns c =
    let n = (snap_in c.args.view.now.db) in
    let e = (scope_at c.args.view.now.db.records.words.now c.args.h) in
    seen_not n e c.args.view.now.from.0 (ap (λ x. both_hold n x e) (sym c.scope_owner.ensures)
    ∙ sym c.both_hold.ensures ∙ c.if-both_hold.false)
