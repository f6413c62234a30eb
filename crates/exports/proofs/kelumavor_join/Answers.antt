use mathlib.Core.Path.{subst}
use Rattle.join.specs.Joins.{JoinsIn}
use Rattle.exports.proofs.kelumavor_join.Goals as goal

pub returns : goal.returns
returns c =
    let a = c.args in
    subst (JoinsIn a.first.now a.second.now a.area.now a.target.now c.join-r.new.target c.join-r.new.area) c.tell.ensures c.join-r.ensures
