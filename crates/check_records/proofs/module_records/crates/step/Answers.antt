use mathlib.Core.Path.{refl}
use Rattle.check_rules.proofs.Exits.{err_is}
use Rattle.snapshot.proofs.Laws.{refusal_some}
use Rattle.check_records.proofs.record_rules.Tabled.{crate_no, crate_on}
use Rattle.check_records.proofs.module_records.crates.step.Goals as goal

pub returns-in_err-judge_crate : goal.returns-in_err-judge_crate
returns-in_err-judge_crate c ms st =
    rw (err_is _ _ c.from_residual.ensures.1) (crate_no c.args.words.now c.args.area.now c.args.at c.args.l ms st
    c.in_err-judge_crate.ensures
    c.in_range.ensures
    c.edition_known.ensures
    refl
    (refusal_some _))

pub returns : goal.returns
returns c ms st =
    crate_on c.args.words.now c.args.area.now c.args.at c.args.l ms st
    c.in_ok-judge_crate.ensures
    c.in_range.ensures
    c.edition_known.ensures
    refl
    refl c.requires.room c.requires.fits
