use mathlib.Core.Path.{refl, sym, subst}
use native.Mathlib.Omega.{arith}
use Rattle.snapshot.specs.Records.{Snapshot, scope_at}
use Rattle.snapshot.specs.Layouts.{snap_of}
use Rattle.hir_def.proofs.Lookups.{next_record, next_none}
use Rattle.hir_def.proofs.Fits.{few_words, module_meets}
use Rattle.hir_def.proofs.item_scope.Along.{met_below}
use Rattle.find_path_local.specs.distances.Distances.{distance, Relaxed}
use Rattle.find_path_local.specs.distances.Post.{Lowers}
use Rattle.find_path_local.proofs.distances.Lowering.{lowers_same, lowers_on, lowers_ready, lowers_snap}
use Rattle.find_path_local.proofs.distances.Marking.{along_start, along_next, along_done}
use Rattle.find_path_local.proofs.distances.Relaxing.{steps_none, steps_then, tried_snap, relaxed_down, opened_all}
use Rattle.find_path_local.proofs.distances.relax_scope.Goals as goal

pub loop-next-init : goal.loop-next-init
loop-next-init c =
    let W = c.args.records.now.words.now in
    let A = c.args.area.now in
    let s = snap_of W A c.args.records.now.layout in (
      along_start Lowers lowers_same lowers_on W A c.args.records.now.layout c.args.m.0 (λ B. Relaxed s c.args.x (distance B) c.args.d)
          (relaxed_down s c.args.x c.args.d),
      steps_none A c.args.d,
      c.requires.4,
    )

pub invariant_of-db : goal.invariant_of-db
invariant_of-db c = record {
  reads =
      (lowers_ready c.args.records.now.words.now c.args.records.now.layout c.loop-next.invariant.0.moves c.requires.0
      c.loop-next.invariant.0.size).reads;
}

pub modules_in_scope-requires : goal.modules_in_scope-requires
modules_in_scope-requires c = (c.loop-next.invariant.0.within, c.loop-next.invariant.0.follows)

pub relax_entry-r-requires : goal.relax_entry-r-requires
relax_entry-r-requires c =
    let W = c.args.records.now.words.now in
    let A = c.args.area.now in
    let l = c.args.records.now.layout in
    let v = c.loop-next.invariant.0 in
    let x = next_record (c.modules_in_scope.ensures A) c.in-Some.is in
    let B = c.loop-next.area in
    let y = next_record (c.modules_in_scope.ensures B) c.in-Some.is in
    let r = lowers_ready W l v.moves c.requires.0 v.size in (
      r,
      c.requires.1,
      module_meets W A l c.requires.0.reads x,
      met_below W B l c.args.m.0 y r.reads refl,
      c.requires.2,
      c.requires.3,
      tried_snap c.args.x c.loop-next.tried (sym (lowers_snap W l v.moves c.requires.0.reads)) c.loop-next.invariant.2,
    )

pub overflow_add-k : goal.overflow_add-k
overflow_add-k c =
    let W = c.args.records.now.words.now in
    let A = c.args.area.now in
    let x = next_record (c.modules_in_scope.ensures A) c.in-Some.is in
    record { fits = omega (arith, x.below, few_words W A c.args.records.now.layout c.requires.0.reads) }

pub loop-next-smaller : goal.loop-next-smaller
loop-next-smaller c =
    let x = next_record (c.modules_in_scope.ensures c.args.area.now) c.in-Some.is in
    omega (arith, x.below, x.from)

pub loop-next-preserved : goal.loop-next-preserved
loop-next-preserved c =
    let W = c.args.records.now.words.now in
    let A = c.args.area.now in
    let l = c.args.records.now.layout in
    let s = snap_of W A l in
    let v = c.loop-next.invariant.0 in
    let x = next_record (c.modules_in_scope.ensures A) c.in-Some.is in
    let f = c.relax_entry-r.ensures.steps in
    let B = c.relax_entry-r.new.area in
    let sn = lowers_snap W l v.moves c.requires.0.reads in
    let q = subst (λ (z : Snapshot). Relaxed z c.args.x (distance B) c.args.d (scope_at W c.in-Some.next.head)) sn f.1 in (
      along_next Lowers lowers_same lowers_on W A l c.args.m.0 (λ B. Relaxed s c.args.x (distance B) c.args.d) (relaxed_down s c.args.x c.args.d) v B
          x f.0.lowers q (omega (arith, c.relax_entry-r.array_long, c.told-area, v.size)),
      steps_then c.loop-next.invariant.1 f.0,
      tried_snap c.args.x c.relax_entry-r.new.tried sn c.relax_entry-r.ensures.misses,
    )

pub returns-in_default : goal.returns-in_default
returns-in_default c =
    let W = c.args.records.now.words.now in
    let A = c.args.area.now in
    let l = c.args.records.now.layout in
    let s = snap_of W A l in
    record {
      steps = (
        c.loop-next.invariant.1,
        opened_all s c.args.x c.args.m.0 c.args.d c.loop-next.area
            (along_done Lowers lowers_same lowers_on W A l c.args.m.0 (λ B. Relaxed s c.args.x (distance B) c.args.d)
            (relaxed_down s c.args.x c.args.d) c.loop-next.invariant.0 (next_none (c.modules_in_scope.ensures A) c.in_default.is)),
      );
      misses = c.loop-next.invariant.2;
    }
