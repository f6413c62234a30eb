use Rattle.exports.proofs.Asking.{asked_checked}
use Rattle.exports.proofs.kelumavor_find_path_checked.Goals as goal

pub returns : goal.returns
returns c =
    let a = c.args in
    asked_checked a.words.now a.area.now a.counts.now _ _ _ _ _ _ _ c.question_of.ensures c.find_path_checked-answer.ensures
    c.write_report.ensures
