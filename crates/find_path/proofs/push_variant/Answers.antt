use mathlib.Core.Path.{ap, ◌∙◌}
use Rattle.find_path_choice.specs.Choices.{push}
use Rattle.find_path.proofs.push_variant.Goals as goal

pub returns : goal.returns
returns c = c.push.ensures ∙ ap (push _ _ _) c.step_by-via.ensures
