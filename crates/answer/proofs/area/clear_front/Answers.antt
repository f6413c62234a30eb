use mathlib.Core.Path.{ap, ◌∙◌}
use Rattle.answer.specs.Answers.{zeros}
use Rattle.answer.proofs.Areas.{area_small, area_large, front_long}
use Rattle.answer.proofs.area.clear_front.Goals as goal

pub returns-in_default : goal.returns-in_default
returns-in_default c = area_small c.args.area.now c.in_default.ensures.cases

pub returns-in-Some : goal.returns-in-Some
returns-in-Some c =
    let f = c.in-Some.ensures.cases in
    area_large c.args.area.now c.clear.new.area f.enough (c.clear.ensures ∙ ap zeros (front_long f))
