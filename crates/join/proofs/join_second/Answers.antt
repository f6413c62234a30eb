use mathlib.Core.Path.{refl, ◌∙◌}
use native.Mathlib.Omega.{arith}
use Rattle.check_rules.proofs.Exits.{err_is}
use Rattle.answer.proofs.checked.Laws.{refused_verdict, accepted_reads}
use Rattle.join.proofs.Laws.{second_not, second_done}
use Rattle.join.proofs.join_second.Goals as goal

pub returns-in_err-layout : goal.returns-in_err-layout
returns-in_err-layout c =
    rw (err_is _ _ c.from_residual.ensures.1) (second_not c.args.first.now.words.now c.args.second.now c.args.target.now
    (refused_verdict c.args.second.now c.args.area.now _ _ c.told-area c.in_err-layout.ensures _ refl))

pub join_accepted-requires : goal.join_accepted-requires
join_accepted-requires c =
    let z = c.check.auto.area ∙ c.told-area in
    record {
      first = c.requires;
      second = accepted_reads c.args.second.now c.args.area.now c.check.new.area _ c.told-area c.in_ok-layout.ensures _ refl;
      room = omega arith;
    }

pub returns : goal.returns
returns c =
    second_done c.args.first.now.words.now c.args.second.now c.args.target.now
    (accepted_reads c.args.second.now c.args.area.now c.check.new.area _ c.told-area c.in_ok-layout.ensures _ refl) c.join_accepted.ensures
