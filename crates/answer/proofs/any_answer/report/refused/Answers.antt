use mathlib.Core.Path.{◌∙◌, ap}
use Rattle.answer.specs.any_answer.Any.{any_refused, any_without}
use Rattle.answer.proofs.any_answer.report.refused.Goals as goal

pub returns : goal.returns
unfolding any_refused
returns c = c.without.ensures ∙ ap (any_without 2) c.number.ensures.same
