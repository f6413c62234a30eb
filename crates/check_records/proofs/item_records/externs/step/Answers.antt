use mathlib.Core.Path.{refl}
use native.Mathlib.Omega.{arith}
use Rattle.check_rules.proofs.Exits.{err_is}
use Rattle.snapshot.proofs.Laws.{refusal_some}
use Rattle.check_records.proofs.records.Steps.{extern_no, extern_on}
use Rattle.check_records.proofs.records.Linked.{extern_chain, extern_linked}
use Rattle.check_records.proofs.item_records.externs.step.Goals as goal

pub repeated_with-old-requires : goal.repeated_with-old-requires
repeated_with-old-requires c = let e = c.extern_base.ensures in
    let p = c.requires.place in
    let f = c.requires.fits in
    let q = c.requires.short in
    record {
      chained = extern_chain c.args.words.now c.args.area.now c.args.l c.requires.index e;
      key_value = (c.record_key-key.ensures, omega arith, omega arith, omega arith, omega arith);
      count_in_bounds = (omega arith, f, omega arith, omega arith);
    }

pub returns-in_err-judge : goal.returns-in_err-judge
returns-in_err-judge c ms st =
    rw (err_is _ _ c.from_residual.ensures.1) (extern_no c.args.words.now c.args.area.now c.args.at c.args.l ms st
    c.in_err-judge.ensures
    c.defined.ensures
    c.extern_base.ensures
    c.repeated_with-old.ensures
    (refusal_some _))

pub returns : goal.returns
returns c ms st =
    extern_on c.args.words.now c.args.area.now c.args.at c.args.l ms st
    c.in_ok-judge.ensures
    c.defined.ensures
    c.extern_base.ensures
    c.repeated_with-old.ensures
    c.link.new.area refl c.requires.fits
    (extern_linked c.args.words.now c.args.area.now c.args.at c.args.l ms c.requires.short c.requires.room st
    c.requires.fits c.record_key-key.ensures c.link.ensures)
