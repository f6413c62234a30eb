use Rattle.exports.proofs.Reaching.{reached}
use Rattle.exports.proofs.kelumavor_reach.Goals as goal

pub returns : goal.returns
returns c =
    let a = c.args in
    reached a.words.now a.area.now _ _ _ c.viewer_of.ensures c.find_reach-reach.ensures c.tell_reach.ensures
