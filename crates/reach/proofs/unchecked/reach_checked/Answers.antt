use Rattle.answer.proofs.checked.Laws.{checks_judged}
use Rattle.reach.proofs.unchecked.reach_checked.Goals as goal

pub reach_on-requires : goal.reach_on-requires
reach_on-requires c = checks_judged c.args.words.now c.args.area.now _ _ c.told-area c.check-c.ensures

pub returns : goal.returns
returns c = c.reach_on.ensures.reach
