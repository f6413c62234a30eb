use Rattle.join.proofs.numbers.Filling.{put_old, put_new}
use Rattle.join.proofs.numbers.tables.put_number.Goals as goal

pub returns-then-place-old : goal.returns-then-place-old
returns-then-place-old c = let a = c.args in put_old a.area.now a.at a.old a.place a.fresh c.if-place-old.true

pub returns : goal.returns
returns c = let a = c.args in put_new a.area.now a.at a.old a.place a.fresh c.if-place-old.false
