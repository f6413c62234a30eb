use Rattle.exports.proofs.Asking.{asked}
use Rattle.exports.proofs.kelumavor_find_path.Goals as goal

pub returns : goal.returns
returns c =
    let a = c.args in
    asked a.words.now a.area.now _ _ _ _ _ _ _ c.question_of.ensures c.find_path-answer.ensures c.write_report.ensures
