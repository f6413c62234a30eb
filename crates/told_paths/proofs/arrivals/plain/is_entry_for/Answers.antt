use mathlib.Core.Path.{ap, ◌∙◌}
use Rattle.hir_def.specs.Items.{same_item}
use Rattle.hir_def.proofs.ItemTests.{item_eq}
use Rattle.told_paths.proofs.arrivals.plain.is_entry_for.Goals as goal

pub returns : goal.returns
returns c = λ A. c.eq.ensures ∙ item_eq _ _ ∙ ap (λ x. same_item x c.args.item) (c.item_at.ensures A)
