use mathlib.Core.Path.{refl}
use Rattle.check_rules.proofs.Exits.{err_is}
use Rattle.answer.proofs.checked.Laws.{refused_verdict, accepted_reads}
use Rattle.join.proofs.numbers.Parts.{part_of_lem}
use Rattle.join.proofs.new_numbers.Laws.{first_refused, by_first}
use Rattle.join.proofs.new_numbers.numbers.number_checked.Goals as goal

pub returns-in_err-layout : goal.returns-in_err-layout
returns-in_err-layout c =
    rw (err_is _ _ c.from_residual.ensures.1)
    (first_refused _ _ _ _ (refused_verdict c.args.first.now c.args.area.now _ _ c.told-area c.in_err-layout.ensures _ refl))

pub number_second-requires : goal.number_second-requires
number_second-requires c =
    part_of_lem c.args.first.now _ _ (accepted_reads c.args.first.now c.args.area.now _ _ c.told-area c.in_ok-layout.ensures _ refl)

pub returns : goal.returns
returns c =
    let r = accepted_reads c.args.first.now c.args.area.now _ _ c.told-area c.in_ok-layout.ensures _ refl in
    by_first c.args.first.now c.args.second.now c.args.area.now (part_of_lem c.args.first.now _ _ r).same _ _ c.number_second.ensures
