use mathlib.Core.Path.{sym, ap, ap₂, ◌∙◌}
use lib.Dec.{eqb}
use borrow.Author.Tests.{not-true, not-false}
use Rattle.snapshot.specs.Layouts.{snap_of}
use Rattle.hir_def.proofs.ItemTests.{item_eq}
use Rattle.accept.proofs.Laws.{and_no, and_yes}
use Rattle.hir_def.specs.Items.{item_of, same_item}
use Rattle.hir_def.proofs.import_map.is_import.Goals as goal

pub returns-then-ne : goal.returns-then-ne
returns-then-ne c = λ A. and_no _ (ap (λ o. eqb o c.args.c.0) (sym c.import_owner.ensures) ∙ not-true _ (sym c.ne.ensures ∙ c.if-ne.true))

pub returns : goal.returns
returns c =
    λ A.
    let S = snap_of c.args.records.now.words.now A c.args.records.now.layout in
    and_yes (ap (λ o. eqb o c.args.c.0) (sym c.import_owner.ensures) ∙ not-false _ (sym c.ne.ensures ∙ c.if-ne.false))
    (c.eq.ensures ∙ item_eq _ _ ∙ ap (λ x. same_item x c.args.item) (c.item_of.ensures A
    ∙ ap₂ (item_of S) c.import_ns-ns.ensures c.import_definition-d.ensures))
