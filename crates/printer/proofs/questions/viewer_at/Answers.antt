use Rattle.printer.proofs.Laws.{viewer_same}
use Rattle.printer.proofs.questions.viewer_at.Goals as goal

pub returns : goal.returns
returns c =
    let s = c.args in
    viewer_same s.words.now s.at _ _ _ _ _ c.payload.ensures
    c.field.ensures c.field-2.ensures c.field-3.ensures c.field-4.ensures
