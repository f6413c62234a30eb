use mathlib.Core.Path.{sym}
use native.Mathlib.Omega.{arith}
use lib.Seq.{length-take-le}
use Rattle.std.specs.Prelude.{Ok, Err}
use Rattle.check_rules.proofs.Exits.{err_is}
use Rattle.edits.proofs.Laws.{opens_short, opens_front}
use Rattle.edits.proofs.check_first.Goals as goal

pub returns-then-words-count : goal.returns-then-words-count
returns-then-words-count c = opens_short c.args.words.now c.args.count c.if-words-count.true

pub slice_bounds-check-end : goal.slice_bounds-check-end
slice_bounds-check-end c = sym (length-take-le _ c.args.words.now c.if-words-count.false)

pub returns-in_err-check : goal.returns-in_err-check
returns-in_err-check c =
    rw (err_is _ _ c.from_residual.ensures.1)
    (opens_front c.args.words.now c.args.count c.args.area.now _ (omega (arith, c.told-area)) c.if-words-count.false c.told-area
    (Err _) c.in_err-check.ensures)

pub returns : goal.returns
returns c =
    opens_front c.args.words.now c.args.count c.args.area.now _ (omega (arith, c.told-area)) c.if-words-count.false c.told-area
    (Ok _) c.in_ok-check.ensures
