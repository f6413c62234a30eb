use mathlib.Core.Path.{ap, ◌∙◌}
use Rattle.printer.specs.Printed.{is_question}
use Rattle.printer.proofs.Laws.{not_whole, whole_same}
use Rattle.printer.proofs.questions.is_whole.Goals as goal

pub returns-then-words-at : goal.returns-then-words-at
returns-then-words-at c = not_whole c.args.words.now c.args.at c.if-words-at.true

pub returns : goal.returns
returns c =
    let s = c.args in
    let q = c.is_question-head.ensures
    ∙ ap is_question c.kind.ensures in
    whole_same s.words.now s.at _ _ _ _ _ _ _ q c.is_argument.ensures
    c.is_argument-2.ensures c.is_argument-3.ensures c.is_argument-4.ensures
    c.is_argument-5.ensures c.is_argument-6.ensures
