use mathlib.Core.Path.{◌≡◌, ap, ◌∙◌}
use native.Mathlib.Omega.{arith}
use lib.ListN.{length}
use Rattle.printer.proofs.Laws.{first_start, first_here, first_later, first_none}
use Rattle.printer.specs.Printed.{is_head}
use Rattle.printer.proofs.questions.first_question.Goals as goal

pub loop-i-init : goal.loop-i-init
loop-i-init c = (omega arith, first_start c.args.words.now)

pub returns-then-is_head : goal.returns-then-is_head
returns-then-is_head c =
    let l = c.loop-i in
    let q = c.is_head.ensures ∙ ap is_head c.kind.ensures in (
      first_here c.args.words.now l.i l.invariant.1 _
          c.loop-i-test.true q c.if-is_head.true,
      l.invariant.0,
    )

pub loop-i-preserved : goal.loop-i-preserved
loop-i-preserved c =
    let l = c.loop-i in
    let q = c.is_head.ensures ∙ ap is_head c.kind.ensures in (
      omega arith,
      first_later c.args.words.now l.i l.invariant.1 _
          c.loop-i-test.true q c.if-is_head.false,
    )

pub returns : goal.returns
returns c =
    let l = c.loop-i in
    let e : length c.args.words.now ≡ l.i = omega arith in
    (e ∙ first_none c.args.words.now l.i l.invariant.1 c.loop-i-test.false, omega arith)
