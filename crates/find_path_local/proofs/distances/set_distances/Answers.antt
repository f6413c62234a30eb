use mathlib.Core.Path.{sym, ◌∙◌}
use native.Mathlib.Omega.{arith}
use Rattle.snapshot.specs.Limits.{module_limit}
use Rattle.snapshot.specs.Layouts.{snap_of}
use Rattle.find_path_local.proofs.distances.Relaxing.{tried_start, tried_snap, settling_start, settling_ready, settling_snap}
use Rattle.find_path_local.proofs.distances.Relaxing.{settling_walked, settling_next, settling_stop, settling_end}
use Rattle.find_path_local.proofs.distances.set_distances.Goals as goal

pub sift-requires : goal.sift-requires
sift-requires c = (c.requires.0, c.requires.1, c.requires.3)

pub loop-d-init : goal.loop-d-init
loop-d-init c =
    let A = c.args.area.now in
    let f = c.sift.ensures in (
      settling_start c.args.records.now.words.now A c.args.records.now.layout c.args.x c.requires.0 (f.marks A c.requires.0.reads c.requires.2)
          (c.sift.array_long ∙ sym c.told-area) f.beyond,
      tried_start (snap_of c.args.records.now.words.now A c.args.records.now.layout) c.args.x module_limit,
    )

pub relax-requires : goal.relax-requires
relax-requires c =
    let W = c.args.records.now.words.now in
    let A = c.args.area.now in
    let l = c.args.records.now.layout in (
      settling_ready W A l c.args.x c.requires.0 c.loop-d.invariant.0,
      c.requires.1,
      omega (arith, c.loop-d-test.true),
      settling_walked W A l c.args.x c.requires.0 c.loop-d.invariant.0 c.requires.3,
      tried_snap c.args.x c.loop-d.tried (sym (settling_snap W A l c.args.x c.requires.0 c.loop-d.invariant.0)) c.loop-d.invariant.1,
    )

pub returns-then-not-relax : goal.returns-then-not-relax
returns-then-not-relax c =
    settling_stop c.args.records.now.words.now c.args.area.now c.args.records.now.layout c.args.x c.requires.0 c.loop-d.invariant.0
    c.relax.ensures.round c.if-not-relax.true

pub loop-d-preserved : goal.loop-d-preserved
loop-d-preserved c =
    let W = c.args.records.now.words.now in
    let A = c.args.area.now in
    let l = c.args.records.now.layout in
    let v = c.loop-d.invariant.0 in (
      settling_next W A l c.args.x c.requires.0 v c.relax.ensures.round (omega (arith, c.relax.array_long, c.told-area, v.size)),
      tried_snap c.args.x c.relax.new.tried (settling_snap W A l c.args.x c.requires.0 v) c.relax.ensures.misses,
    )

pub returns : goal.returns
returns c =
    settling_end c.args.records.now.words.now c.args.area.now c.args.records.now.layout c.args.x c.requires.0 c.loop-d.invariant.0
    (omega (arith, c.loop-d-test.false))
