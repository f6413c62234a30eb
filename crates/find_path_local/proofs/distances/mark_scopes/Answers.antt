use native.Mathlib.Omega.{arith}
use mathlib.Core.Path.{sym, refl, ◌∙◌}
use Rattle.hir_def.proofs.Climbs.{some_number, none_number}
use Rattle.find_path_local.proofs.distances.Lowering.{lowers_ready}
use Rattle.find_path_local.proofs.distances.Marking.{climbing_start, climbing_lowers, climbing_less, climbing_next, climbing_done}
use Rattle.find_path_local.proofs.distances.mark_scopes.Goals as goal

pub loop-b-init : goal.loop-b-init
loop-b-init c =
    climbing_start c.args.records.now.words.now c.args.area.now c.args.records.now.layout c.args.from.0 c.requires.1

pub mark_scope-requires : goal.mark_scope-requires
mark_scope-requires c =
    lowers_ready c.args.records.now.words.now c.args.records.now.layout c.loop-b.invariant.lowers c.requires.0 c.loop-b.invariant.size

pub invariant_of-db : goal.invariant_of-db
invariant_of-db c = record {
  reads = (lowers_ready c.args.records.now.words.now c.args.records.now.layout
      (climbing_lowers c.args.records.now.words.now c.args.area.now c.args.records.now.layout
      c.requires.0.reads c.args.from.0 c.loop-b.area c.loop-b.m.0 c.loop-b.invariant _ c.mark_scope.ensures
      (omega (arith, c.mark_scope.array_long, c.told-area, c.loop-b.invariant.size)))
      c.requires.0 (c.mark_scope.array_long ∙ sym c.told-area)).reads;
}

pub returns-in_default : goal.returns-in_default
returns-in_default c =
    climbing_done c.args.records.now.words.now c.args.area.now c.args.records.now.layout c.requires.0.reads c.args.from.0 c.loop-b.area
    c.loop-b.m.0 c.loop-b.invariant _ c.mark_scope.ensures (omega (arith, c.mark_scope.array_long, c.told-area, c.loop-b.invariant.size))
    c.block.ensures
    (none_number _ refl c.in_default.is)

pub loop-b-smaller : goal.loop-b-smaller
loop-b-smaller c =
    climbing_less c.args.records.now.words.now c.args.area.now c.args.records.now.layout c.requires.0.reads c.args.from.0 c.loop-b.area
    c.loop-b.m.0 c.loop-b.invariant _ c.mark_scope.ensures (omega (arith, c.mark_scope.array_long, c.told-area, c.loop-b.invariant.size))
    c.block.ensures
    (some_number _ refl c.in-Some.is)

pub loop-b-preserved : goal.loop-b-preserved
loop-b-preserved c =
    climbing_next c.args.records.now.words.now c.args.area.now c.args.records.now.layout c.requires.0.reads c.args.from.0 c.loop-b.area
    c.loop-b.m.0 c.loop-b.invariant _ c.mark_scope.ensures (omega (arith, c.mark_scope.array_long, c.told-area, c.loop-b.invariant.size))
    c.block.ensures
    (some_number _ refl c.in-Some.is)
