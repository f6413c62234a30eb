use native.Mathlib.Omega.{arith}
use Rattle.windows.proofs.state.StateWords.{rows_eight, word_asked}
use Rattle.windows.proofs.state.serve.asked_by.Goals as goal

pub returns : goal.returns
returns c =
    let s = c.args in
    let l = rows_eight s.windows _ c.well_formed.0 in
    word_asked s.windows s.window.number _ (omega (arith, l, s.window.below))
