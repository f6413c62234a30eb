use mathlib.Core.Path.{refl, ap, ◌∙◌}
use Rattle.check_rules.proofs.Exits.{err_is}
use Rattle.snapshot.proofs.Laws.{refusal_some}
use Rattle.reports.specs.questions.Questions.{question_of}
use Rattle.windows.specs.rules.States.{waiting, with_row}
use Rattle.windows.specs.state.Words.{words_of}
use Rattle.windows.proofs.Laws.{placed_not, placed_so}
use Rattle.windows.proofs.values.placed.Goals as goal

pub returns-in_err-free : goal.returns-in_err-free
returns-in_err-free c =
    let s = c.args in
    rw (err_is _ _ c.from_residual.ensures.1) (placed_not (words_of s.windows) s.window _ _ c.in_err-free.ensures.0 (refusal_some _))

pub returns : goal.returns
returns c =
    let s = c.args in
    placed_so (words_of s.windows) s.window _ _ c.in_ok-free.ensures.0 refl _ (c.with_question.ensures
    ∙ ap (λ n. with_row (words_of s.windows) n (waiting (question_of s.question.now))) c.in_ok-free.ensures.1)
