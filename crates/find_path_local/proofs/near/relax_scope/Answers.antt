use mathlib.Core.Path.{refl, subst}
use mathlib.Core.List.{List}
use native.Mathlib.Omega.{arith}
use Rattle.snapshot.specs.Records.{Snapshot, scope_at}
use Rattle.snapshot.specs.Layouts.{snap_of}
use Rattle.hir_def.proofs.Lookups.{next_record, next_none}
use Rattle.hir_def.proofs.Fits.{few_words, module_meets}
use Rattle.hir_def.proofs.item_scope.Along.{met_below}
use Rattle.find_path_spec.specs.Walk.{Level}
use Rattle.find_path_levels.specs.Levels.{levels_of}
use Rattle.find_path_local.specs.near.Numbers.{number, Relaxed}
use Rattle.find_path_local.specs.near.Post.{Falls}
use Rattle.find_path_local.proofs.distances.Marking.{along_start, along_next, along_done}
use Rattle.find_path_local.proofs.near.Falling.{falls_none, falls_on, kept, kept_snap, kept_levels, relaxed_down, opened_all}
use Rattle.find_path_local.proofs.near.relax_scope.Goals as goal

pub loop-next-init : goal.loop-next-init
loop-next-init c =
    let A = c.args.area.now in
    let l = c.args.records.now.layout in
    let S = snap_of c.args.records.now.words.now A l in
    let s = c.args.s in
    let ls = levels_of A s.place s.depth in
    along_start (Falls s.top c.args.d) (falls_none s.top c.args.d) (falls_on s.top c.args.d) c.args.records.now.words.now A l c.args.m.0
    (λ B. Relaxed S c.args.x ls (number B s.top) c.args.d) (relaxed_down S c.args.x ls s.top c.args.d c.args.d)

pub invariant_of-db : goal.invariant_of-db
invariant_of-db c = record { reads = (kept c.requires.0 c.loop-next.invariant.moves.scratched c.loop-next.invariant.size).reads }

pub modules_in_scope-requires : goal.modules_in_scope-requires
modules_in_scope-requires c = (c.loop-next.invariant.within, c.loop-next.invariant.follows)

pub relax_entry-requires : goal.relax_entry-requires
relax_entry-requires c =
    let W = c.args.records.now.words.now in
    let A = c.args.area.now in
    let B = c.loop-next.area in
    let l = c.args.records.now.layout in
    let v = c.loop-next.invariant in
    let y = kept c.requires.0 v.moves.scratched v.size in (
      y,
      module_meets W A l c.requires.0.reads (next_record (c.modules_in_scope.ensures A) c.in-Some.is),
      met_below W B l c.args.m.0 (next_record (c.modules_in_scope.ensures B) c.in-Some.is) y.reads refl,
      c.requires.1,
    )

pub overflow_add-k : goal.overflow_add-k
overflow_add-k c =
    let W = c.args.records.now.words.now in
    let A = c.args.area.now in
    let x = next_record (c.modules_in_scope.ensures A) c.in-Some.is in
    record { fits = omega (arith, x.below, few_words W A c.args.records.now.layout c.requires.0.reads) }

pub loop-next-smaller : goal.loop-next-smaller
loop-next-smaller c =
    let x = next_record (c.modules_in_scope.ensures c.args.area.now) c.in-Some.is in
    omega (arith, x.below, x.from)

pub loop-next-preserved : goal.loop-next-preserved
loop-next-preserved c =
    let W = c.args.records.now.words.now in
    let A = c.args.area.now in
    let l = c.args.records.now.layout in
    let S = snap_of W A l in
    let s = c.args.s in
    let ls = levels_of A s.place s.depth in
    let v = c.loop-next.invariant in
    let f = c.relax_entry.ensures in
    let B = c.relax_entry.new.area in
    let y = c.requires.0 in
    let q = subst (λ (z : Snapshot). Relaxed z c.args.x ls (number B s.top) c.args.d (scope_at W c.in-Some.next.head)) (kept_snap y v.moves.scratched)
    (subst (λ (z : List Level). Relaxed (snap_of W c.loop-next.area l) c.args.x z (number B s.top) c.args.d (scope_at W c.in-Some.next.head))
    (kept_levels y v.moves.scratched) f.1) in
    along_next (Falls s.top c.args.d) (falls_none s.top c.args.d) (falls_on s.top c.args.d) W A l c.args.m.0
    (λ B. Relaxed S c.args.x ls (number B s.top) c.args.d) (relaxed_down S c.args.x ls s.top c.args.d c.args.d) v B
    (next_record (c.modules_in_scope.ensures A) c.in-Some.is) f.0 q (c.relax_entry.auto.area)

pub returns-in_default : goal.returns-in_default
returns-in_default c =
    let W = c.args.records.now.words.now in
    let A = c.args.area.now in
    let l = c.args.records.now.layout in
    let S = snap_of W A l in
    let s = c.args.s in
    let ls = levels_of A s.place s.depth in
    let v = c.loop-next.invariant in (
      v.moves,
      opened_all S c.args.x ls (number c.loop-next.area s.top) c.args.m.0 c.args.d
          (along_done (Falls s.top c.args.d) (falls_none s.top c.args.d) (falls_on s.top c.args.d) W A l c.args.m.0
          (λ B. Relaxed S c.args.x ls (number B s.top) c.args.d) (relaxed_down S c.args.x ls s.top c.args.d c.args.d) v
          (next_none (c.modules_in_scope.ensures A) c.in_default.is)),
    )
