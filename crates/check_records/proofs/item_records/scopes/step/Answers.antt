use mathlib.Core.Path.{refl}
use native.Mathlib.Omega.{arith}
use Rattle.check_rules.proofs.Exits.{err_is}
use Rattle.snapshot.proofs.Laws.{refusal_some}
use Rattle.check_records.proofs.records.Steps.{scope_no, scope_on}
use Rattle.check_records.proofs.records.Linked.{scope_chain, scope_linked}
use Rattle.check_records.proofs.item_records.scopes.step.Goals as goal

pub repeated_with-old-requires : goal.repeated_with-old-requires
repeated_with-old-requires c = let e = c.scope_base.ensures in
    let p = c.requires.place in
    let f = c.requires.fits in
    let q = c.requires.short in
    record {
      chained = scope_chain c.args.words.now c.args.area.now c.args.l c.requires.index e;
      key_value = (c.record_key-key.ensures, omega arith, omega arith, omega arith, omega arith);
      count_in_bounds = (omega arith, f, omega arith, omega arith);
    }

pub returns-in_err-judge : goal.returns-in_err-judge
returns-in_err-judge c ms st =
    rw (err_is _ _ c.from_residual.ensures.1) (scope_no c.args.words.now c.args.area.now c.args.at c.args.l ms st
    c.in_err-judge.ensures
    c.in_range.ensures
    c.defined.ensures
    c.scope_base.ensures
    c.repeated_with-old.ensures
    c.scope_ns.ensures c.scope_definition.ensures
    c.ns_placed-placed.ensures
    (refusal_some _))

pub returns : goal.returns
returns c ms st =
    scope_on c.args.words.now c.args.area.now c.args.at c.args.l ms st
    c.in_ok-judge.ensures
    c.in_range.ensures
    c.defined.ensures
    c.scope_base.ensures
    c.repeated_with-old.ensures
    c.scope_ns.ensures c.scope_definition.ensures
    c.ns_placed-placed.ensures
    c.link.new.area refl c.requires.fits
    (scope_linked c.args.words.now c.args.area.now c.args.at c.args.l ms c.requires.short c.requires.room st
    c.requires.fits c.record_key-key.ensures
    c.link.ensures)
