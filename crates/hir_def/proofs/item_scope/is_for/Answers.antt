use mathlib.Core.Path.{sym, ap, ◌∙◌}
use lib.Dec.{eqb}
use borrow.Author.Tests.{not-true, not-false}
use Rattle.hir_def.proofs.ItemTests.{item_eq}
use Rattle.accept.proofs.Laws.{and_no, and_yes}
use Rattle.hir_def.specs.Items.{same_item}
use Rattle.hir_def.specs.ItemScope.{is_for}
use Rattle.hir_def.proofs.item_scope.is_for.Goals as goal

pub returns-then-ne : goal.returns-then-ne
unfolding is_for
returns-then-ne c = λ A. and_no _ (ap (λ o. eqb o c.args.m.0) (sym c.scope_owner.ensures) ∙ not-true _ (sym c.ne.ensures ∙ c.if-ne.true))

pub returns : goal.returns
unfolding is_for
returns c =
    λ A.
    and_yes (ap (λ o. eqb o c.args.m.0) (sym c.scope_owner.ensures) ∙ not-false _ (sym c.ne.ensures ∙ c.if-ne.false))
    (c.eq.ensures ∙ item_eq _ _ ∙ ap (λ x. same_item x c.args.item) (c.item_at.ensures A))
