use Prim.Native.Nat.{◌<◌}
use mathlib.Core.Path.{◌≡◌, refl, ◌∙◌}
use native.Mathlib.Omega.{arith}
use lib.ListN.{length, length-set}
use Rattle.printing.proofs.Laws.{words_next, past_next, rows_empty}
use Rattle.printing.proofs.input.words_in.Goals as goal

pub loop-k-init : goal.loop-k-init
loop-k-init c = (omega arith, refl, rows_empty _, refl)

pub loop-k-preserved : goal.loop-k-preserved
loop-k-preserved c =
    let l = c.loop-k in
    let h : l.k < length l.words = omega arith in (
      omega arith,
      (simp length-set) ∙ l.invariant.1,
      words_next _ l.words l.k _ h l.invariant.2 c.word_in.ensures,
      past_next
          l.words _ l.k _ l.invariant.3,
    )

pub returns : goal.returns
returns c =
    let l = c.loop-k in
    let e : l.k ≡ c.args.n = omega arith in
    rw (← e) (l.invariant.2, l.invariant.3)
