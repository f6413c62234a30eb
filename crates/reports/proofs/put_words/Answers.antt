use Prim.Native.Nat.{◌+◌, ◌<◌}
use mathlib.Core.Path.{refl, ◌∙◌}
use native.Mathlib.Omega.{arith}
use lib.ListN.{length, length-set}
use Rattle.reports.proofs.Laws.{words_start, words_next, words_done}
use Rattle.reports.proofs.put_words.Goals as goal

pub loop-i-init : goal.loop-i-init
loop-i-init c = (
  omega arith,
  refl,
  words_start c.args.out.now c.args.numbers.now
      c.args.at,
)

pub loop-i-preserved : goal.loop-i-preserved
loop-i-preserved c =
    let a = c.args in
    let l = c.loop-i in
    let h : a.at + l.i < length a.out.now = omega arith in (
      omega arith,
      (simp length-set) ∙ l.invariant.1,
      words_next a.out.now l.out a.numbers.now a.at l.i _ l.invariant.2 h c.loop-i-test.true c.low.ensures,
    )

pub returns : goal.returns
returns c =
    let a = c.args in
    let l = c.loop-i in
    words_done a.out.now l.out a.numbers.now a.at l.i l.invariant.2 l.invariant.0 c.loop-i-test.false
