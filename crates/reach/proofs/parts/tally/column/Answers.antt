use Rattle.reach.proofs.parts.Laws.{found_column, none_column, other_column}
use Rattle.reach.proofs.parts.tally.column.Goals as goal

pub returns-then-r : goal.returns-then-r
returns-then-r c = found_column _ c.if-r.true

pub returns-then-r-2 : goal.returns-then-r-2
returns-then-r-2 c = none_column _ c.if-r.false c.if-r-2.true

pub returns : goal.returns
returns c = other_column _ c.if-r.false c.if-r-2.false
