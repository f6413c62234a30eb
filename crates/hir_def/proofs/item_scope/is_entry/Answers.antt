use mathlib.Core.Path.{sym, ap, ◌∙◌}
use mathlib.Core.Bool.{◌||◌, not}
use Rattle.accept.proofs.Laws.{and_no, and_yes}
use Rattle.hir_def.proofs.item_scope.is_entry.Goals as goal

pub returns-then-is_for : goal.returns-then-is_for
returns-then-is_for c =
    λ A.
    and_yes (sym (c.is_for.ensures A) ∙ c.if-is_for.true) (ap (λ y. y || not c.args.declared) c.is_declared-here.ensures)

pub returns : goal.returns
returns c = λ A. and_no _ (sym (c.is_for.ensures A) ∙ c.if-is_for.false)
