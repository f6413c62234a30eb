use mathlib.Core.Path.{refl, ◌∙◌}
use native.Mathlib.Omega.{arith}
use Rattle.check_rules.proofs.Exits.{err_is}
use Rattle.answer.proofs.checked.Laws.{refused_verdict, accepted_reads}
use Rattle.join.proofs.numbers.Parts.{part_of_lem}
use Rattle.join.proofs.new_numbers.Laws.{second_refused, both_numbered}
use Rattle.join.proofs.new_numbers.numbers.number_second.Goals as goal

pub returns-in_err-layout : goal.returns-in_err-layout
returns-in_err-layout c =
    rw (err_is _ _ c.from_residual.ensures.1)
    (second_refused _ _ _ _ (refused_verdict c.args.second.now c.args.area.now _ _ c.told-area c.in_err-layout.ensures _ refl))

pub number-requires : goal.number-requires
number-requires c =
    let z = c.check.auto.area ∙ c.told-area in
    record {
      first = c.requires;
      second = accepted_reads c.args.second.now c.args.area.now _ _ c.told-area c.in_ok-layout.ensures _ refl;
      room = omega (arith, z);
    }

pub returns : goal.returns
returns c =
    let r = accepted_reads c.args.second.now c.args.area.now _ _ c.told-area c.in_ok-layout.ensures _ refl in
    both_numbered c.args.first.now.words.now c.args.second.now _ c.requires.same (part_of_lem c.args.second.now _ _ r).same
    _ _ c.number.ensures
