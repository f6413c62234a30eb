use mathlib.Core.Path.{ap, ◌∙◌}
use mathlib.Core.List.{◌++◌}
use Rattle.printing.proofs.Laws.{put_as}
use Rattle.find_path_spec.specs.Report.{refused}
use Rattle.find_path_spec.specs.Line.{bytes_of, line_in}
use Rattle.answer.specs.Answers.{zeros}
use Rattle.answer.proofs.Areas.{front_long}
use Rattle.answer.proofs.checked.Laws.{checks_judged}
use Rattle.answer.proofs.Lined.{lined_none, lined_small, lined_large}
use Rattle.answer.proofs.lines.find_line.Goals as goal

pub returns-then-out-lt-LIMIT : goal.returns-then-out-lt-LIMIT
returns-then-out-lt-LIMIT c =
    let s = c.args in
    lined_none s.words.now s.area.now s.question s.out.now c.clear_front.new.area c.if-out-lt-LIMIT.true c.clear_front.ensures

pub returns-in_default : goal.returns-in_default
returns-in_default c =
    let s = c.args in
    lined_small s.words.now s.area.now s.question s.out.now c.if-out-lt-LIMIT.false
    _ _ c.in_default.ensures.cases
    (λ u from. put_as (ap (λ n. line_in u from (refused n) ++ bytes_of "\n") c.number.ensures.same) (c.put_refusal.ensures u from))

pub line_on-n-requires : goal.line_on-n-requires
line_on-n-requires c = (
  checks_judged c.args.words.now c.in-Some.front.now _ _ (front_long c.in-Some.ensures.cases) c.check-c.ensures,
  c.if-out-lt-LIMIT.false,
)

pub returns : goal.returns
returns c =
    let s = c.args in
    lined_large s.words.now s.area.now s.question s.out.now
    c.if-out-lt-LIMIT.false _ _ c.clear.new.area
    c.in-Some.ensures.cases.enough (c.clear.ensures ∙ ap zeros c.line_on-n.array_long) c.line_on-n.ensures.line
