use mathlib.Core.Path.{sym, ◌∙◌}
use native.Mathlib.Omega.{arith}
use Rattle.accept.proofs.Trees.{accepted_tree}
use Rattle.hir_def.proofs.Reading.{length_modules}
use Rattle.hir_def.proofs.Climbs.{some_number, none_number}
use Rattle.read_back.proofs.Outward.{outward_falls, stands_here, stands_on}
use Rattle.accept.specs.Opened.{snap_in}
use Rattle.read_back.proofs.blocks.stands_for.Goals as goal

pub returns-in_default : goal.returns-in_default
returns-in_default c =
    let g = c.loop-b in
    let n = snap_in c.args.db.now in (
      stands_here n (outward_falls n (accepted_tree c.args.db.now.records.words.now n c.args.db.now.reads.same)) g.t.0
          (rw (length_modules c.args.db.now.records.words.now c.args.db.now.area.now c.args.db.now.records.layout) g.invariant.1)
          (none_number _ c.outward.ensures c.in_default.is) ∙ sym g.invariant.0,
      g.invariant.1,
    )

pub loop-b-smaller : goal.loop-b-smaller
loop-b-smaller c =
    let g = c.loop-b in
    let n = snap_in c.args.db.now in
    outward_falls n (accepted_tree c.args.db.now.records.words.now n c.args.db.now.reads.same) g.t.0 _
    (rw (length_modules c.args.db.now.records.words.now c.args.db.now.area.now c.args.db.now.records.layout) g.invariant.1)
    (some_number _ c.outward.ensures c.in-Some.is)

pub loop-b-preserved : goal.loop-b-preserved
loop-b-preserved c =
    let g = c.loop-b in
    let n = snap_in c.args.db.now in
    let f = outward_falls n (accepted_tree c.args.db.now.records.words.now n c.args.db.now.reads.same) in
    let e = some_number _ c.outward.ensures c.in-Some.is in
    let d = f g.t.0 _ (rw (length_modules c.args.db.now.records.words.now c.args.db.now.area.now c.args.db.now.records.layout) g.invariant.1) e in (
      g.invariant.0 ∙ stands_on n f g.t.0
          (rw (length_modules c.args.db.now.records.words.now c.args.db.now.area.now c.args.db.now.records.layout) g.invariant.1)
          _ e,
      omega (arith, d, g.invariant.1),
    )
