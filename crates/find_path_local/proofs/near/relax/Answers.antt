use Prim.Native.Nat.{◌+◌}
use mathlib.Core.Path.{◌≡◌, refl, ap, ◌∙◌, subst}
use mathlib.Core.List.{List}
use native.Mathlib.Omega.{arith}
use lib.ListN.{get_or}
use Rattle.snapshot.specs.Records.{Snapshot}
use Rattle.snapshot.specs.Layouts.{snap_of}
use Rattle.accept.specs.Valid.{Each}
use Rattle.find_path_spec.specs.Walk.{Level}
use Rattle.find_path_levels.specs.Levels.{run_at, levels_of}
use Rattle.find_path_levels.specs.walk_once.Walked.{walk_at, walk_count}
use Rattle.find_path_levels.proofs.Rows.{run_none, agree}
use Rattle.find_path_local.specs.near.Numbers.{number, Opened}
use Rattle.find_path_local.specs.near.Post.{Turned}
use Rattle.find_path_local.proofs.distances.Relaxing.{run_more, walk_known}
use Rattle.find_path_local.proofs.near.Falling.{kept, kept_snap, kept_levels}
use Rattle.find_path_local.proofs.near.Turning.{turned_start, turned_next}
use Rattle.find_path_local.proofs.near.relax.Goals as goal

pub loop-k-init : goal.loop-k-init
loop-k-init c =
    let A = c.args.area.now in
    let s = c.args.s in (
      turned_start (snap_of c.args.records.now.words.now A c.args.records.now.layout) c.args.x (levels_of A s.place s.depth) s.top c.args.d A
          (run_none A walk_at),
      refl,
      omega arith,
    )

pub relax_at-requires : goal.relax_at-requires
relax_at-requires c =
    let W = c.args.records.now.words.now in
    let A = c.args.area.now in
    let y = c.requires.0 in
    let v = c.loop-k.invariant in
    let e = c.word.ensures
    ∙ agree c.loop-k.area A c.args.s.top v.0.falls.scratched.below (walk_at + c.loop-k.k)
    (omega (arith, c.loop-k-test.true, c.word-k-end.ensures, y.walked.few, y.numbers)) in (
      kept y v.0.falls.scratched v.1,
      c.requires.1,
      walk_known W A c.args.records.now.layout c.args.x.from.0 c.loop-k.k _ y.reads y.from y.walked c.word-k-end.ensures c.loop-k-test.true e,
    )

pub loop-k-preserved : goal.loop-k-preserved
loop-k-preserved c =
    let W = c.args.records.now.words.now in
    let A = c.args.area.now in
    let l = c.args.records.now.layout in
    let S = snap_of W A l in
    let s = c.args.s in
    let ls = levels_of A s.place s.depth in
    let y = c.requires.0 in
    let v = c.loop-k.invariant in
    let m = c.word.result in
    let e = c.word.ensures
    ∙ agree c.loop-k.area A s.top v.0.falls.scratched.below (walk_at + c.loop-k.k)
    (omega (arith, c.loop-k-test.true, c.word-k-end.ensures, y.walked.few, y.numbers)) in
    let b = walk_known W A l c.args.x.from.0 c.loop-k.k _ y.reads y.from y.walked c.word-k-end.ensures c.loop-k-test.true e in
    let B = c.relax_at.new.area in
    let opens : number c.loop-k.area s.top m ≡ c.args.d → Each (Opened S c.args.x ls (number B s.top) m (c.args.d + 1)) S.scopes =
    λ q.
    subst (λ (z : Snapshot). Each (Opened z c.args.x ls (number B s.top) m (c.args.d + 1)) z.scopes) (kept_snap y v.0.falls.scratched)
    (subst (λ (z : List Level). Each (Opened (snap_of W c.loop-k.area l) c.args.x z (number B s.top) m (c.args.d + 1))
    (snap_of W c.loop-k.area l).scopes)
    (kept_levels y v.0.falls.scratched) (c.relax_at.ensures.1 q)) in (
      turned_next S c.args.x ls s.top c.args.d A v.0 (run_more A walk_at c.loop-k.k e) (omega (arith, b, y.reads.tables.limited.modules))
          c.relax_at.ensures.0 opens,
      c.relax_at.auto.area ∙ v.1,
      omega (arith, c.loop-k-test.true, c.word-k-end.ensures),
    )

pub returns : goal.returns
returns c =
    let A = c.args.area.now in
    let s = c.args.s in
    let S = snap_of c.args.records.now.words.now A c.args.records.now.layout in
    let e : c.loop-k.k ≡ get_or A walk_count 0 = omega (arith, c.loop-k.invariant.2, c.loop-k-test.false, c.word-k-end.ensures) in
    subst (λ ms. Turned S c.args.x (levels_of A s.place s.depth) ms s.top c.args.d A c.loop-k.area)
    (ap (run_at A walk_at) e ∙ c.requires.0.walked.same)
    c.loop-k.invariant.0
