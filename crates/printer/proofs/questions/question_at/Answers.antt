use Rattle.printer.proofs.Laws.{question_same}
use Rattle.printer.proofs.questions.question_at.Goals as goal

pub returns : goal.returns
returns c =
    let s = c.args in
    question_same s.words.now s.at _ _ _ _ _ _ _ c.field.ensures
    c.payload.ensures c.field-2.ensures
    c.field-3.ensures c.field-4.ensures c.field-5.ensures c.field-6.ensures
