use mathlib.Core.Path.{sym, ap, ◌∙◌}
use borrow.Author.Tests.{not-true, not-false}
use Rattle.accept.proofs.Laws.{and_no, and_yes}
use Rattle.hir_def.specs.Items.{same_item}
use Rattle.hir_def.proofs.ItemTests.{item_eq}
use Rattle.find_path_local.proofs.path_offers.names_importably.Goals as goal

pub returns-then-ne : goal.returns-then-ne
returns-then-ne c =
    and_no _ (ap (λ o. same_item o c.args.item) (sym (c.item_at.ensures c.args.db.now.area.now)) ∙ sym (item_eq _ _)
    ∙ not-true _ (sym c.ne.ensures ∙ c.if-ne.true))

pub returns : goal.returns
returns c =
    and_yes (ap (λ o. same_item o c.args.item) (sym (c.item_at.ensures c.args.db.now.area.now)) ∙ sym (item_eq _ _)
    ∙ not-false _ (sym c.ne.ensures ∙ c.if-ne.false)) c.is_importable.ensures
