use Rattle.answer.proofs.Pairs.{answers_twice}
use Rattle.answer.proofs.twice.find_path_twice.Goals as goal

pub returns : goal.returns
returns c =
    let s = c.args in
    answers_twice s.words.now s.area.now s.other.now s.q s.fuel s.more _ _ _
    c.find_path-first.ensures c.find_path-second.ensures
