use Prim.Native.Nat.{◌+◌, ◌-◌}
use mathlib.Core.Path.{◌≡◌, sym, ap, ◌∙◌}
use native.Mathlib.Omega.{arith}
use Rattle.windows.specs.rules.States.{first_from}
use Rattle.windows.specs.state.Words.{words_of}
use Rattle.windows.proofs.state.Laws.{served_start, first_here, first_next, first_none}
use Rattle.windows.proofs.state.rows.next_waiting.Goals as goal

pub loop-turn-init : goal.loop-turn-init
unfolding words_of
loop-turn-init c = (omega arith, omega arith, served_start _)

pub returns-then-waits : goal.returns-then-waits
returns-then-waits c =
    let l = c.loop-turn in
    sym (l.invariant.2 ∙ first_here _ l.window.0 _ c.waits.ensures (8 - l._turn) (omega arith) c.if-waits.true)

pub loop-turn-preserved : goal.loop-turn-preserved
loop-turn-preserved c =
    let l = c.loop-turn in
    let e : 8 - l._turn - 1 ≡ 8 - (l._turn + 1) = omega arith in
    let f = first_next _ l.window.0 _ c.waits.ensures (8 - l._turn) (omega arith) c.if-waits.false in (
      omega arith,
      omega arith,
      l.invariant.2 ∙ f ∙ ap (λ w. first_from (words_of c.args.windows) w (8 - l._turn - 1)) (sym c.next-window.ensures)
          ∙ ap (first_from (words_of c.args.windows) _) e,
    )

pub returns : goal.returns
returns c =
    let l = c.loop-turn in
    sym (l.invariant.2 ∙ first_none _ l.window.0 (8 - l._turn) (omega arith))
