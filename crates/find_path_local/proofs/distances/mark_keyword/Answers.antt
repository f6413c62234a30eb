use mathlib.Core.Path.{sym, ap, ◌∙◌}
use mathlib.Core.Bool.{true≢false}
use Rattle.find_path_choice.specs.Choices.{Choice}
use Rattle.find_path_choice.proofs.ChoiceLaws.{given_some}
use Rattle.find_path_local.proofs.distances.Lowering.{lowers_same}
use Rattle.find_path_local.proofs.distances.mark_keyword.Goals as goal

pub returns-else-is_some : goal.returns-else-is_some
returns-else-is_some c = (
  lowers_same _,
  λ e. absurd (true≢false (sym e ∙ sym (ap (λ (z : Choice). z.found) c.keyword_rule.ensures) ∙ sym (given_some _) ∙ sym c.is_some.ensures
      ∙ c.if-is_some.false)),
)
