use mathlib.Core.Path.{refl}
use native.Mathlib.Omega.{arith}
use lib.ListN.{length-set}
use Rattle.imports.proofs.lists.Walks.{few_words, turn_mark, turn_place, turn_old, new_threaded, new_room, turn_new}
use Rattle.imports.proofs.lists.walk.visit.Goals as goal

pub overflow_add-mark : goal.overflow_add-mark
overflow_add-mark c = omega (arith, turn_place c.args.top c.requires c.pile_base.ensures c.word-m.ensures c.marks_base.ensures)

pub offset_bounds-area-mark : goal.offset_bounds-area-mark
offset_bounds-area-mark c = omega (arith, turn_place c.args.top c.requires c.pile_base.ensures c.word-m.ensures c.marks_base.ensures)

pub bounds-area-mark : goal.bounds-area-mark
bounds-area-mark c = omega (arith, turn_place c.args.top c.requires c.pile_base.ensures c.word-m.ensures c.marks_base.ensures)

pub returns-then-area-mark-ne0 : goal.returns-then-area-mark-ne0
returns-then-area-mark-ne0 c =
    turn_old c.args.top c.requires c.pile_base.ensures c.word-m.ensures
    c.marks_base.ensures c.if-area-mark-ne0.true

pub offset_bounds-area-mark-2 : goal.offset_bounds-area-mark-2
offset_bounds-area-mark-2 c = omega (arith, turn_place c.args.top c.requires c.pile_base.ensures c.word-m.ensures c.marks_base.ensures)

pub bounds-area-mark-2 : goal.bounds-area-mark-2
bounds-area-mark-2 c = omega (arith, turn_place c.args.top c.requires c.pile_base.ensures c.word-m.ensures c.marks_base.ensures)

pub overflow_cast-area : goal.overflow_cast-area
overflow_cast-area c = omega (arith, turn_mark c.args.top c.requires c.pile_base.ensures c.word-m.ensures)

pub bounds-area-order_base : goal.bounds-area-order_base
bounds-area-order_base c =
    let r = c.requires.room in
    simp length-set (omega (arith, few_words c.requires.threaded.ready, c.order_base.ensures, c.requires.threaded.ready.size))

pub push_modules-t-requires : goal.push_modules-t-requires
push_modules-t-requires c =
    let p = c.pile_base.ensures in
    let m = c.word-m.ensures in (
      new_threaded c.args.top c.requires p m c.marks_base.ensures c.order_base.ensures (omega arith) refl,
      turn_mark c.args.top c.requires p m,
      new_room c.args.top c.requires p m c.marks_base.ensures c.order_base.ensures (omega arith) refl,
    )

pub returns : goal.returns
returns c =
    turn_new c.args.top c.requires c.pile_base.ensures c.word-m.ensures c.marks_base.ensures
    c.order_base.ensures (omega arith) refl c.push_modules-t.ensures
