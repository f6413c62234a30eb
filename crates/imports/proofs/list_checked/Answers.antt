use mathlib.Core.Path.{refl, ◌∙◌}
use Rattle.check_rules.proofs.Exits.{err_is}
use Rattle.answer.proofs.checked.Laws.{refused_verdict, accepted_reads}
use Rattle.imports.proofs.Laws.{checked_not, checked_done}
use Rattle.imports.proofs.list_checked.Goals as goal

pub returns-in_err-layout : goal.returns-in_err-layout
returns-in_err-layout c =
    rw (err_is _ _ c.from_residual.ensures.1) (checked_not c.args.words.now c.args.target.now c.args.c.0
    (refused_verdict c.args.words.now c.args.area.now _ _ c.told-area c.in_err-layout.ensures _ refl))

pub list_accepted-requires : goal.list_accepted-requires
list_accepted-requires c =
    record {
      reads = accepted_reads c.args.words.now c.args.area.now c.check.new.area _ c.told-area c.in_ok-layout.ensures _ refl;
      size = c.check.auto.area ∙ c.told-area;
    }

pub returns : goal.returns
returns c =
    checked_done c.args.words.now c.args.target.now c.args.c.0
    (accepted_reads c.args.words.now c.args.area.now c.check.new.area _ c.told-area c.in_ok-layout.ensures _ refl) c.list_accepted.ensures
