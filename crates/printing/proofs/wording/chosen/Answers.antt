use Rattle.printing.proofs.wording.Laws.{choose_same, choose_other}
use Rattle.printing.proofs.wording.chosen.Goals as goal

pub returns-then-n-m : goal.returns-then-n-m
returns-then-n-m c = choose_same _ _ _ _ c.if-n-m.true

pub returns : goal.returns
returns c = choose_other _ _ _ _ c.if-n-m.false
