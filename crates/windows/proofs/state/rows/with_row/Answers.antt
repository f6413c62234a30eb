use native.Mathlib.Omega.{arith}
use Rattle.windows.specs.state.Words.{empty_row}
use Rattle.windows.proofs.state.StateWords.{rows_eight, words_put}
use Rattle.windows.proofs.state.rows.with_row.Goals as goal

pub returns : goal.returns
returns c =
    let l = rows_eight c.args.windows _ c.well_formed.0 in
    words_put c.args.windows c.args.window.number empty_row (omega (arith, l, c.args.window.below)) c.args.row
