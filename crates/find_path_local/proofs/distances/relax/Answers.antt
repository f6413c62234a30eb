use Prim.Native.Nat.{◌+◌}
use mathlib.Core.Path.{◌≡◌, refl, sym, subst, ◌∙◌, ap}
use native.Mathlib.Omega.{arith}
use lib.ListN.{get_or}
use Rattle.snapshot.specs.Layouts.{snap_of}
use Rattle.find_path_levels.specs.Levels.{run_at}
use Rattle.find_path_levels.specs.walk_once.Walked.{walk_at, walk_count}
use Rattle.find_path_levels.proofs.Rows.{run_none}
use Rattle.find_path_local.specs.distances.Post.{Round}
use Rattle.find_path_local.proofs.distances.Lowering.{lowers_ready, lowers_snap}
use Rattle.find_path_local.proofs.distances.Relaxing.{tried_snap, round_start, round_next, run_more, walk_known}
use Rattle.find_path_local.proofs.distances.relax.Goals as goal

pub loop-k-init : goal.loop-k-init
loop-k-init c = (
  round_start c.args.records.now.words.now c.args.area.now c.args.records.now.layout c.args.x c.args.d (run_none c.args.area.now walk_at),
  refl,
  omega arith,
  c.requires.4,
)

pub relax_at-r-requires : goal.relax_at-r-requires
relax_at-r-requires c =
    let W = c.args.records.now.words.now in
    let A = c.args.area.now in
    let l = c.args.records.now.layout in
    let v = c.loop-k.invariant in (
      lowers_ready W l v.0.steps.lowers c.requires.0 v.1,
      c.requires.1,
      walk_known W A l c.args.x.from.0 c.loop-k.k _ c.requires.0.reads c.requires.1 c.requires.3 c.word-k-end.ensures c.loop-k-test.true
          (c.word.ensures ∙ v.0.steps.beyond (walk_at + c.loop-k.k) (omega arith)),
      c.requires.2,
      tried_snap c.args.x c.loop-k.tried (sym (lowers_snap W l v.0.steps.lowers c.requires.0.reads)) v.3,
    )

pub loop-k-preserved : goal.loop-k-preserved
loop-k-preserved c =
    let A = c.args.area.now in
    let v = c.loop-k.invariant in
    let e = c.word.ensures ∙ v.0.steps.beyond (walk_at + c.loop-k.k) (omega arith) in (
      round_next c.args.records.now.words.now A c.args.records.now.layout c.args.x c.args.d c.requires.0.reads v.0 (run_more A walk_at c.loop-k.k e)
          c.relax_at-r.ensures.turned,
      omega (arith, c.relax_at-r.array_long, c.told-area, v.1),
      omega (arith, c.loop-k-test.true, c.word-k-end.ensures),
      tried_snap c.args.x c.relax_at-r.new.tried
          (lowers_snap c.args.records.now.words.now c.args.records.now.layout v.0.steps.lowers c.requires.0.reads) c.relax_at-r.ensures.misses,
    )

pub returns : goal.returns
returns c =
    let A = c.args.area.now in
    let S = snap_of c.args.records.now.words.now A c.args.records.now.layout in
    let e : c.loop-k.k ≡ get_or A walk_count 0 = omega (arith, c.loop-k.invariant.2, c.loop-k-test.false, c.word-k-end.ensures) in
    record {
      round =
          subst (λ ms. Round S c.args.x A ms c.args.d c.loop-k.area c.loop-k.more) (ap (run_at A walk_at) e ∙ c.requires.3.same)
          c.loop-k.invariant.0;
      misses = c.loop-k.invariant.3;
    }
