use mathlib.Core.Path.{◌≡◌, refl, ◌∙◌}
use Rattle.std.proofs.Common.{rules}
use native.Mathlib.Omega.{arith}
use Rattle.check_rules.proofs.Exits.{err_is}
use Rattle.accept.proofs.Turns.{arguments_few}
use Rattle.accept.proofs.Folds.{going_start, going_here, going_stop, going_on, going_end, before_ok, before_err}
use Rattle.accept.proofs.check.read_records.Goals as goal

pub loop-at-init : goal.loop-at-init
loop-at-init c = (
  going_start _ _ c.requires.0
      c.clear.ensures.zero c.new-l.ensures,
  refl,
)

pub turn-requires : goal.turn-requires
turn-requires c =
    let g = c.loop-at in
    going_here c.args.words.now g.area g.at g.last g.l g.invariant.0 c.loop-at-test.true c.requires.0
    (let e = g.invariant.1 in let k = c.clear.auto.area in let f = c.requires.1 in omega arith)

pub returns-in_err-l : goal.returns-in_err-l
returns-in_err-l c =
    let g = c.loop-at in
    let m = before_err _ c.turn.result c.in_err-l.field-0.0 c.map_err.ensures.cases c.in_err-l.was in
    let k : c.in_err-l.field-0.0 ≡ record { why = m.0; at = g.at } = search (rules, m.2) in
    let q = going_stop c.args.words.now g.area c.turn.new.area g.at g.last g.l c.turn.result g.invariant.0
    c.loop-at-test.true c.turn.ensures m.0 m.1 in
    rw (err_is _ _ c.from_residual.ensures.1, k) q

pub overflow_add-at-in-loop-at : goal.overflow_add-at-in-loop-at
overflow_add-at-in-loop-at c =
    let h = c.loop-at-test.true in
    let e = arguments_few c.args.words.now c.loop-at.at _
    c.arguments.ensures in
    omega arith

pub loop-at-preserved : goal.loop-at-preserved
loop-at-preserved c =
    let g = c.loop-at in (
      going_on c.args.words.now g.area c.turn.new.area g.at g.last g.l c.turn.result g.invariant.0
          c.loop-at-test.true c.turn.ensures
          c.in_ok-l.l (before_ok _ c.turn.result _ c.map_err.ensures.cases c.in_ok-l.was) c.arguments.ensures
          c.kind-last.ensures,
      c.turn.auto.area ∙ g.invariant.1,
    )

pub returns : goal.returns
returns c =
    let g = c.loop-at in
    going_end c.args.words.now g.area g.at g.last g.l g.invariant.0 c.loop-at-test.false
