use mathlib.Core.Path.{ap, ◌∙◌}
use native.Mathlib.Omega.{arith}
use Rattle.snapshot.specs.Layouts.{snap_of}
use Rattle.hir_def.specs.Items.{root_of}
use Rattle.find_path_local.proofs.distances.Lowering.{lowers_ready}
use Rattle.find_path_local.proofs.distances.Marking.{rooting_start, rooting_next, rooting_known}
use Rattle.find_path_local.proofs.distances.mark_roots.Goals as goal

pub loop-c-init : goal.loop-c-init
loop-c-init c = rooting_start c.args.records.now.words.now c.args.area.now c.args.records.now.layout

pub invariant_of-db : goal.invariant_of-db
invariant_of-db c = record {
  reads = (lowers_ready c.args.records.now.words.now c.args.records.now.layout c.loop-c.invariant.lowers c.requires c.loop-c.invariant.size).reads;
}

pub mark-requires : goal.mark-requires
mark-requires c =
    rooting_known c.args.records.now.words.now c.args.area.now c.args.records.now.layout c.requires.reads c.loop-c.area c.loop-c.c c.loop-c.invariant
    c.own.ensures c.root-r.ensures

pub loop-c-preserved : goal.loop-c-preserved
loop-c-preserved c =
    rooting_next c.args.records.now.words.now c.args.area.now c.args.records.now.layout c.requires.reads c.loop-c.area c.loop-c.c c.loop-c.invariant
    c.mark.new.area c.loop-c-test.true (c.root-r.ensures ∙ ap
    (root_of (snap_of c.args.records.now.words.now c.loop-c.area c.args.records.now.layout)) c.own.ensures.0)
    c.mark.ensures (omega (arith, c.mark.array_long, c.told-area, c.loop-c.invariant.size))

pub returns : goal.returns
returns c =
    let v = c.loop-c.invariant in
    (v.lowers, λ k h. v.roots k (omega (arith, h, c.loop-c-test.false)))
