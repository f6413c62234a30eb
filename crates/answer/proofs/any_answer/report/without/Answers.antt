use mathlib.Core.Path.{ap}
use Rattle.answer.specs.any_answer.Any.{any_without}
use Rattle.answer.proofs.any_answer.report.without.Goals as goal

pub returns : goal.returns
unfolding any_without
returns c = ap (λ k. any_without k c.args.number) c.number.ensures
