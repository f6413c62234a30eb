use Rattle.std.proofs.Common.{[], ◌∷◌, refl, arith, of_calls}
use Rattle.printer.specs.Printed.{end, turn}
use Rattle.answer.proofs.checked.Laws.{checks_judged}
use Rattle.printer.proofs.Laws.{next_more}
use Rattle.printer.proofs.each.each_answer.Goals as goal

pub loop-at-init : goal.loop-at-init
loop-at-init g c = (
  search of_calls,
  checks_judged _ c.args.area.now _ _ c.told-area c.check-c.ensures,
  c.requires.room.2,
  λ later last t f. (later, t, f),
)

pub loop-at-preserved : goal.loop-at-preserved
loop-at-preserved g c =
    let t = c.next_line-t in (
      search of_calls,
      t.ensures.checked,
      omega (arith, t.auto.out, c.loop-at.invariant.2),
      λ later last more f.
          c.loop-at.invariant.3 (_ ∷ later) last (turn _ _ _ t.result c.loop-at-test.true t.ensures more)
          (c.each.new.self, record { shown = _; shows = refl; called = c.in_ok-each.ensures }, f),
    )

pub returns : goal.returns
returns g c =
    let p = c.loop-at.invariant.3 [] c.loop-at.each (end c.loop-at-test.false) refl in
    (c.check-c.result, p.0, p.1, p.2)

pub loop-at-smaller : goal.loop-at-smaller
loop-at-smaller g c =
    let m = next_more _ c.loop-at.at _ c.loop-at-test.true c.next_line-t.ensures.next in
    omega (arith, m, c.loop-at-test.true)
