use mathlib.Core.Path.{refl, ◌∙◌}
use native.Mathlib.Omega.{arith}
use lib.ListN.{length-set}
use Rattle.windows.specs.state.Words.{rows_words}
use Rattle.windows.proofs.state.StateWords.{apart_next, apart_done}
use Rattle.windows.proofs.state.words.windows_of.Goals as goal

pub loop-i-init : goal.loop-i-init
unfolding rows_words
loop-i-init c = (omega arith, refl, refl)

pub loop-i-preserved : goal.loop-i-preserved
loop-i-preserved c =
    let l = c.loop-i in (
      omega arith,
      length-set l.rows l.i c.row_of-row.result ∙ l.invariant.1,
      apart_next _ l.rows c.row_of-row.result l.i (omega arith) l.invariant.2 c.row_of-row.ensures,
    )

pub returns : goal.returns
returns c =
    let l = c.loop-i in
    apart_done _ l.rows l.i c.well_formed.0.1.0.1 l.invariant.1 l.invariant.0 c.loop-i-test.false l.invariant.2
