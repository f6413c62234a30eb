use Prim.Native.Nat.{◌+◌}
use mathlib.Core.Path.{refl, ◌∙◌}
use native.Mathlib.Omega.{arith}
use Rattle.find_path_spec.proofs.laws.Tables.{same_reads}
use Rattle.find_path_levels.specs.walk_once.Walked.{walk_at}
use Rattle.find_path_local.proofs.distances.Relaxing.{walk_known, sifted_none, sifted_then}
use Rattle.find_path_local.proofs.distances.sift.Goals as goal

pub loop-k-init : goal.loop-k-init
loop-k-init c = (sifted_none _ _ _ _, refl)

pub sift_at-requires : goal.sift_at-requires
sift_at-requires c =
    let W = c.args.records.now.words.now in
    let A = c.args.area.now in
    let l = c.args.records.now.layout in
    let v = c.loop-k.invariant in (
      record { reads = same_reads W A c.loop-k.area l v.0.tables c.requires.0.reads; area = v.1 ∙ c.requires.0.area },
      c.requires.1,
      walk_known W A l c.args.x.from.0 c.loop-k.k _ c.requires.0.reads c.requires.1 c.requires.2 c.word-n.ensures c.loop-k-test.true
          (c.word.ensures ∙ v.0.beyond (walk_at + c.loop-k.k) (omega arith)),
    )

pub loop-k-preserved : goal.loop-k-preserved
loop-k-preserved c =
    let v = c.loop-k.invariant in
    (sifted_then v.0 c.sift_at.ensures, omega (arith, c.sift_at.array_long, c.told-area, v.1))

pub returns : goal.returns
returns c = c.loop-k.invariant.0
