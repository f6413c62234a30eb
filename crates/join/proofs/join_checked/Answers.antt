use mathlib.Core.Path.{refl}
use Rattle.check_rules.proofs.Exits.{err_is}
use Rattle.answer.proofs.checked.Laws.{refused_verdict, accepted_reads}
use Rattle.join.proofs.numbers.Parts.{part_of_lem}
use Rattle.join.proofs.Laws.{first_not, first_done}
use Rattle.join.proofs.join_checked.Goals as goal

pub returns-in_err-layout : goal.returns-in_err-layout
returns-in_err-layout c =
    rw (err_is _ _ c.from_residual.ensures.1) (first_not c.args.first.now c.args.second.now c.args.target.now
    (refused_verdict c.args.first.now c.args.area.now _ _ c.told-area c.in_err-layout.ensures _ refl))

pub join_second-requires : goal.join_second-requires
join_second-requires c = part_of_lem c.args.first.now _ _
    (accepted_reads c.args.first.now c.args.area.now c.check.new.area _ c.told-area c.in_ok-layout.ensures _ refl)

pub returns : goal.returns
returns c =
    first_done c.args.first.now c.args.second.now c.args.target.now
    (accepted_reads c.args.first.now c.args.area.now c.check.new.area _ c.told-area c.in_ok-layout.ensures _ refl) c.join_second.ensures
