use mathlib.Core.Path.{sym, ap, ◌∙◌}
use Rattle.snapshot.specs.Layouts.{snap_of}
use Rattle.hir_def.specs.ItemScope.{counts, names_reads, preferred, preferred_reads}
use Rattle.hir_def.specs.Nameres.{entry_in}
use Rattle.hir_def.proofs.item_scope.entry_in.Goals as goal

pub returns-then-fresh : goal.returns-then-fresh
returns-then-fresh c =
    let W = c.args.db.now.records.words.now in
    let l = c.args.db.now.records.layout in
    let m = c.args.m.0 in
    let d = c.args.declared in (
      λ A. c.fresh_of.ensures.0 A ∙ sym (ap (λ b. entry_in (snap_of W A l) c.args.item d b m) c.if-fresh.true),
      λ A. c.fresh_of.ensures.1 A _
          ∙ sym (ap (λ b. preferred_reads b (snap_of W A l) m c.args.item (counts d) (names_reads (snap_of W A l) m c.args.item (counts d)))
          c.if-fresh.true),
    )

pub returns : goal.returns
unfolding preferred preferred_reads
returns c =
    let W = c.args.db.now.records.words.now in
    let l = c.args.db.now.records.layout in
    let m = c.args.m.0 in
    let d = c.args.declared in (
      λ A. c.names_of.ensures.0 A ∙ sym (ap (λ b. entry_in (snap_of W A l) c.args.item d b m) c.if-fresh.false),
      λ A. c.names_of.ensures.1 A
          ∙ sym (ap (λ b. preferred_reads b (snap_of W A l) m c.args.item (counts d) (names_reads (snap_of W A l) m c.args.item (counts d)))
          c.if-fresh.false),
    )
