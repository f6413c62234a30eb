use borrow.Author.Rules.{rules}
use Rattle.answer.specs.Answers.{zeros}
use Rattle.answer.proofs.area.clear.Goals as goal

pub returns : goal.returns
unfolding zeros
returns c = c.fill.ensures.after (λ y q. search rules)
