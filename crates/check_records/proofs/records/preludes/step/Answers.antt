use mathlib.Core.Path.{refl}
use Rattle.check_rules.proofs.Exits.{err_is}
use Rattle.snapshot.proofs.Laws.{refusal_some}
use Rattle.check_records.proofs.records.Steps.{prelude_no, prelude_on}
use Rattle.check_records.proofs.records.preludes.step.Goals as goal

pub returns-in_err-judge : goal.returns-in_err-judge
returns-in_err-judge c ms st =
    rw (err_is _ _ c.from_residual.ensures.1) (prelude_no c.args.words.now c.args.area.now c.args.at c.args.l ms st
    c.in_err-judge.ensures
    c.defined.ensures
    c.prelude_base.ensures
    c.repeated-old.ensures
    (refusal_some _))

pub returns : goal.returns
returns c ms st =
    prelude_on c.args.words.now c.args.area.now c.args.at c.args.l ms st
    c.in_ok-judge.ensures
    c.defined.ensures
    c.prelude_base.ensures
    c.repeated-old.ensures
    refl c.requires.fits
