use mathlib.Core.Path.{refl}
use native.Mathlib.Omega.{arith}
use Rattle.check_rules.proofs.Exits.{err_is}
use Rattle.snapshot.proofs.Laws.{refusal_some}
use Rattle.check_records.proofs.module_records.ModuleRows.{module_no_lem, module_on}
use lib.ListN.{length-set}
use Rattle.check_records.proofs.module_records.modules.step.Goals as goal

pub returns-in_err-judge : goal.returns-in_err-judge
returns-in_err-judge c ms st =
    rw (err_is _ _ c.from_residual.ensures.1) (module_no_lem c.args.words.now c.args.area.now c.args.at c.args.l ms st
    c.in_err-judge.ensures
    c.defined.ensures
    c.placed.ensures
    refl
    (refusal_some _))

pub bounds-area-row-2 : goal.bounds-area-row-2
bounds-area-row-2 c = simp length-set (omega arith)

pub bounds-area-row-3 : goal.bounds-area-row-3
bounds-area-row-3 c = simp length-set (omega arith)

pub returns : goal.returns
returns c ms st =
    module_on c.args.words.now c.args.area.now c.args.at c.args.l ms st
    c.in_ok-judge.ensures
    c.defined.ensures
    c.placed.ensures
    refl
    refl c.requires.fits c.requires.room c.module_map.ensures refl c.module_parent.ensures
