use mathlib.Core.Path.{ap, ◌∙◌}
use Rattle.answer.specs.Answers.{zeros}
use Rattle.join.proofs.Laws.{joins_small, joins_large}
use Rattle.join.proofs.join.Goals as goal

pub returns-in_default : goal.returns-in_default
returns-in_default c = joins_small c.args.first.now c.args.second.now c.args.area.now c.args.target.now c.in_default.ensures.cases

pub returns : goal.returns
returns c =
    joins_large c.args.first.now c.args.second.now c.args.area.now c.args.target.now _ _ _ c.in-Some.ensures.cases.enough
    (c.clear.ensures ∙ ap zeros c.join_checked-r.array_long) c.join_checked-r.ensures
