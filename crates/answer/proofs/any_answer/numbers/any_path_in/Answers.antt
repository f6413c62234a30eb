use Rattle.answer.proofs.any_answer.Laws.{answers_in}
use Rattle.answer.proofs.any_answer.numbers.any_path_in.Goals as goal

pub returns : goal.returns
returns c =
    answers_in c.args.words.now c.args.area.now c.args.question.now _ c.word-ns.ensures
    c.word-definition.ensures c.word-from.ensures
    c.any_path-r.ensures
