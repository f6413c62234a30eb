use mathlib.Core.Path.{ap, ◌∙◌}
use Rattle.snapshot.proofs.Laws.{refusal_some}
use Rattle.answer.specs.Answers.{zeros}
use Rattle.join.proofs.new_numbers.Laws.{numbers_small, numbers_refused, numbers_large}
use Rattle.join.proofs.new_numbers.numbers.new_numbers.Goals as goal

pub returns-in_default : goal.returns-in_default
returns-in_default c =
    let s = c.args in
    numbers_small s.first.now s.second.now s.area.now c.in_default.ensures.cases

pub returns-in-Err : goal.returns-in-Err
returns-in-Err c =
    let s = c.args in
    numbers_refused s.first.now s.second.now s.area.now c.clear.new.area _ _ c.in-Some.ensures.cases.enough
    (c.clear.auto.area ∙ c.number_checked.array_long) (c.clear.ensures ∙ ap zeros c.number_checked.array_long) (refusal_some _) c.in-Err.ensures

pub returns : goal.returns
returns c =
    let s = c.args in
    numbers_large s.first.now s.second.now s.area.now c.number_checked.new.area c.in-Some.ensures.cases.enough
    c.number_checked.array_long c.in_default-number_checked.ensures
