use mathlib.Core.Path.{refl}
use native.Mathlib.Omega.{arith}
use Rattle.imports.proofs.lists.Walks.{few_words, cleared_reads, root_of_lem, root_inside, walking_start, going_start, going_top, going_next}
use Rattle.imports.proofs.lists.Walks.{going_falls, going_done}
use Rattle.imports.proofs.lists.walk.walk.Goals as goal

pub marks_base-base-requires : goal.marks_base-base-requires
marks_base-base-requires c = omega (arith, few_words c.requires.0.ready)

pub overflow_add-base : goal.overflow_add-base
overflow_add-base c = omega (arith, few_words c.requires.0.ready, c.marks_base-base.ensures)

pub clear-requires : goal.clear-requires
clear-requires c = omega (
  arith,
  few_words c.requires.0.ready,
  c.marks_base-base.ensures,
  c.requires.0.ready.size,
)

pub invariant_of-db : goal.invariant_of-db
invariant_of-db c = record { reads = cleared_reads c.requires.0 c.marks_base-base.ensures c.clear.ensures }

pub overflow_cast-area : goal.overflow_cast-area
overflow_cast-area c =
    let h = root_inside c.requires.0 c.marks_base-base.ensures
    c.clear.ensures c.own.ensures.1 c.root-first.ensures in
    omega (arith, c.requires.0.ready.reads.tables.limited.modules)

pub pile_base-requires : goal.pile_base-requires
pile_base-requires c = omega (arith, few_words c.requires.0.ready)

pub offset_bounds-area-pile_base : goal.offset_bounds-area-pile_base
offset_bounds-area-pile_base c = omega (
  arith,
  few_words
      c.requires.0.ready,
  c.pile_base.ensures,
)

pub bounds-area-pile_base : goal.bounds-area-pile_base
bounds-area-pile_base c =
    omega (
      arith,
      few_words c.requires.0.ready,
      c.pile_base.ensures,
      c.requires.0.ready.size,
      c.area-1.given,
    )

pub loop-top-init : goal.loop-top-init
loop-top-init c =
    going_start (walking_start c.requires.0 c.marks_base-base.ensures
    refl c.clear.ensures
    c.area-1.given c.pile_base.ensures refl
    (root_inside c.requires.0 c.marks_base-base.ensures
    c.clear.ensures c.own.ensures.1
    c.root-first.ensures))

pub visit-t-requires : goal.visit-t-requires
visit-t-requires c = going_top c.loop-top.invariant c.loop-top-test.true

pub loop-top-smaller : goal.loop-top-smaller
loop-top-smaller c = going_falls c.loop-top.invariant c.loop-top-test.true
    c.visit-t.ensures

pub loop-top-preserved : goal.loop-top-preserved
loop-top-preserved c = going_next c.loop-top.invariant c.loop-top-test.true
    c.visit-t.ensures

pub returns : goal.returns
returns c =
    going_done c.args.c.0 c.requires.0
    c.marks_base-base.ensures
    c.clear.ensures
    c.area-1.given c.pile_base.ensures refl
    (root_of_lem c.requires.0 c.marks_base-base.ensures
    c.clear.ensures c.args.c.0
    c.own.ensures.0 c.root-first.ensures)
    c.loop-top.invariant (omega arith)
