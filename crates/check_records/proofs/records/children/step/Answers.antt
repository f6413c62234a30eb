use mathlib.Core.Path.{refl, ap}
use mathlib.Core.Bool.{not}
use native.Mathlib.Omega.{arith}
use lib.Dec.{eqb}
use Rattle.check_rules.proofs.Exits.{err_is}
use Rattle.snapshot.proofs.Laws.{refusal_some}
use Rattle.check_records.proofs.records.Steps.{child_no, child_on}
use Rattle.check_records.proofs.records.Linked.{child_small, child_linked}
use Rattle.check_records.proofs.records.children.step.Goals as goal

pub returns-in_err-judge : goal.returns-in_err-judge
returns-in_err-judge c ms st =
    rw (err_is _ _ c.from_residual.ensures.1) (child_no c.args.words.now c.args.area.now c.args.at c.args.l ms st
    c.in_err-judge.ensures
    c.defined.ensures
    c.child_child-child.ensures
    (ap (λ x. not (eqb x 0)) c.word-old.ensures)
    c.placed.ensures
    (refusal_some _))

pub offset_bounds-area-mark : goal.offset_bounds-area-mark
offset_bounds-area-mark c =
    let h = child_small c.args.words.now c.args.at c.args.l _ _ _ c.in_ok-judge.ensures refl
    c.defined.ensures in
    let e = c.child_child-child.ensures in
    let f = c.requires.limited.modules in
    let g = c.requires.room in
    omega arith

pub bounds-area-mark : goal.bounds-area-mark
bounds-area-mark c =
    let h = child_small c.args.words.now c.args.at c.args.l _ _ _ c.in_ok-judge.ensures refl
    c.defined.ensures in
    let e = c.child_child-child.ensures in
    let f = c.requires.limited.modules in
    let g = c.requires.room in
    omega arith

pub returns : goal.returns
returns c ms st =
    let h = child_small c.args.words.now c.args.at c.args.l _ _ _ c.in_ok-judge.ensures refl
    c.defined.ensures in
    let e = c.child_child-child.ensures in
    let f = c.requires.limited.modules in
    child_on c.args.words.now c.args.area.now c.args.at c.args.l ms st
    c.in_ok-judge.ensures
    c.defined.ensures
    c.child_child-child.ensures
    (ap (λ x. not (eqb x 0)) c.word-old.ensures)
    c.placed.ensures
    _ refl c.requires.fits
    (child_linked c.args.words.now c.args.area.now c.args.at c.args.l ms c.requires.room st e (omega arith))
