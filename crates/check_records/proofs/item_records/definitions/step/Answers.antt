use mathlib.Core.Path.{refl}
use native.Mathlib.Omega.{arith}
use Rattle.check_rules.proofs.Exits.{err_is}
use Prim.Native.Nat.{◌≤◌}
use Rattle.snapshot.specs.Limits.{module_limit}
use Rattle.snapshot.proofs.Laws.{refusal_some}
use Rattle.check_records.proofs.records.Steps.{definition_no, definition_on}
use Rattle.check_records.proofs.records.Linked.{slot_small, definition_linked}
use Rattle.check_records.proofs.item_records.definitions.step.Goals as goal

pub returns-in_err-judge : goal.returns-in_err-judge
returns-in_err-judge c ms st =
    rw (err_is _ _ c.from_residual.ensures.1) (definition_no c.args.words.now c.args.area.now c.args.at c.args.l ms st
    c.in_err-judge.ensures
    c.in_range.ensures
    c.defined.ensures
    c.again.ensures
    c.placed.ensures
    refl
    (refusal_some _))

-- the slot lies below the marks' end
slot_few : (c : goal.After-module_slot-slot) → c.module_slot-slot.result ≤ module_limit
slot_few c =
    slot_small c.args.words.now c.args.at c.args.l _ _ _ _ _ c.in_ok-judge.ensures refl
    c.defined.ensures c.requires.limited.modules c.module_slot-slot.ensures

pub overflow_add-area : goal.overflow_add-area
overflow_add-area c = omega (arith, slot_few c, c.requires.room)

pub offset_bounds-area-slot : goal.offset_bounds-area-slot
offset_bounds-area-slot c = omega (arith, slot_few c, c.requires.room)

pub bounds-area-slot : goal.bounds-area-slot
bounds-area-slot c = omega (arith, slot_few c, c.requires.room)

pub returns : goal.returns
returns c ms st =
    definition_on c.args.words.now c.args.area.now c.args.at c.args.l ms st
    c.in_ok-judge.ensures
    c.in_range.ensures
    c.defined.ensures
    c.again.ensures
    c.placed.ensures
    refl
    _ refl c.requires.fits
    (definition_linked c.args.words.now c.args.area.now c.args.at c.args.l ms c.requires.room st
    c.module_slot-slot.ensures
    (slot_small c.args.words.now c.args.at c.args.l _ _ _ _ _ c.in_ok-judge.ensures refl
    c.defined.ensures c.requires.limited.modules c.module_slot-slot.ensures))
