use mathlib.Core.Path.{ap, ◌∙◌}
use Rattle.hir_def.specs.Items.{same_item, module_item}
use Rattle.find_path_levels.specs.Levels.{item_at}
use borrow.Author.Tests.{leb-false}
use Rattle.find_path_local.proofs.tight_rows.Farther.{same_module, far_item}
use Rattle.find_path_local.proofs.tight_rows.is_near.Goals as goal

pub returns-then-code-ne3 : goal.returns-then-code-ne3
returns-then-code-ne3 c =
    λ _ n h. absurd (c.if-code-ne3.true (same_module _ n (ap (λ w. same_item (item_at w) (module_item n)) c.word-code.ensures ∙ h)).0)

pub returns : goal.returns
returns c =
    λ e n h.
    far_item c.args.area.now c.word-code.result c.args.left n c.word.ensures (leb-false _ _ e)
    (ap (λ w. same_item (item_at w) (module_item n)) c.word-code.ensures ∙ h)
