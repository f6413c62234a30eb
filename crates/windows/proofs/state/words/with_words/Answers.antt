use Prim.Native.Nat.{◌+◌, ◌*◌}
use mathlib.Core.Path.{◌∙◌}
use native.Mathlib.Omega.{arith}
use lib.ListN.{length-set}
use lib.Seq.{paste-zero}
use Rattle.windows.proofs.state.Laws.{row_next, row_done}
use Rattle.windows.proofs.state.words.with_words.Goals as goal

pub loop-i-init : goal.loop-i-init
loop-i-init c = (omega arith, c.well_formed.0.1.0.1, paste-zero c.args.words (1 + 8 * c.args.window.number) c.args.row)

pub loop-i-preserved : goal.loop-i-preserved
loop-i-preserved c =
    let l = c.loop-i in
    (omega arith, (simp length-set) ∙ l.invariant.1, row_next _ l.words _ _ l.i l.invariant.2 (omega arith) (omega arith))

pub returns : goal.returns
returns c =
    let l = c.loop-i in
    let t = c.loop-i-test.false in
    row_done _ l.words _ _ l.i l.invariant.2 l.invariant.0 (omega arith) c.well_formed.1.1.0.1.0.1
