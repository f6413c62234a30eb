use borrow.Author.Rules.{rules}
use mathlib.Core.Path.{◌≡◌}
use lib.ListN.{length}
use Rattle.exports.proofs.Checking.{answered_refused, answered_accepted}
use Rattle.exports.proofs.kelumavor_check.Goals as goal

pub returns-in-Err : goal.returns-in-Err
returns-in-Err c =
    let n : length c.check.new.area ≡ length c.args.area.now = search rules in
    answered_refused c.args.words.now c.args.area.now c.check.new.area c.check.result c.check.ensures
    c.clear_front.new.area n
    c.clear_front.ensures _ _ c.number-number.ensures.same c.in-Err.is

pub returns-in-Ok : goal.returns-in-Ok
returns-in-Ok c =
    answered_accepted c.args.words.now c.args.area.now c.check.new.area c.check.result c.check.ensures _ c.in-Ok.is
