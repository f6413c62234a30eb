use mathlib.Core.Path.{refl}
use Rattle.check_rules.proofs.Exits.{err_is}
use Rattle.snapshot.proofs.Laws.{refusal_some}
use Rattle.check_records.proofs.records.Steps.{dependency_no, dependency_on}
use Rattle.check_records.proofs.records.dependencies.step.Goals as goal

pub returns-in_err-judge : goal.returns-in_err-judge
returns-in_err-judge c ms st =
    rw (err_is _ _ c.from_residual.ensures.1) (dependency_no c.args.words.now c.args.area.now c.args.at c.args.l ms st
    c.in_err-judge.ensures
    c.in_range.ensures
    c.defined.ensures
    (refusal_some _))

pub returns : goal.returns
returns c ms st =
    dependency_on c.args.words.now c.args.area.now c.args.at c.args.l ms st
    c.in_ok-judge.ensures
    c.in_range.ensures
    c.defined.ensures
    refl c.requires.fits
