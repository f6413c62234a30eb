use mathlib.Core.Path.{◌≡◌, refl, ◌∙◌, ap}
use native.Mathlib.Omega.{arith}
use lib.ListN.{length, get_or}
use Rattle.windows.specs.rules.States.{with_row}
use Rattle.windows.specs.state.Words.{empty_row, row_words, rows_words}
use Rattle.windows.proofs.state.Laws.{with_length}
use Rattle.windows.proofs.state.StateWords.{rows_eight, row_length, together_next, together_done}
use Rattle.windows.proofs.state.words.words_of.Goals as goal

pub loop-i-init : goal.loop-i-init
unfolding rows_words
loop-i-init c = (omega arith, refl, refl)

pub loop-i-preserved : goal.loop-i-preserved
unfolding empty_row
loop-i-preserved c =
    let l = c.loop-i in
    let s = c.args.windows in
    let m = rows_eight s _ c.well_formed.0 in
    let r = get_or s.rows l.i empty_row in
    let e : c.with_words-more.result ≡ with_row l.words l.i (row_words r) =
    c.with_words-more.ensures ∙ ap (with_row l.words l.i) c.row_words.ensures in (
      omega arith,
      ap (λ x. length x) e ∙ with_length l.words l.i (row_words r) l.invariant.1 (omega arith) (row_length r),
      together_next l.words _ s.rows empty_row s.next l.i l.invariant.1 (omega arith) (omega (arith, m)) l.invariant.2 e,
    )

pub returns : goal.returns
returns c =
    let l = c.loop-i in
    together_done c.args.windows l.words l.i l.invariant.1 (rows_eight c.args.windows _
    c.well_formed.0) l.invariant.0 c.loop-i-test.false l.invariant.2
