use Prim.Native.Nat.{◌≤◌}
use mathlib.Core.Path.{ap, ◌∙◌, subst}
use native.Mathlib.Omega.{arith}
use Rattle.snapshot.specs.Layouts.{snap_of}
use Rattle.hir_def.specs.Items.{definition_of}
use Rattle.hir_def.proofs.Lookups.{next_record, next_none}
use Rattle.hir_def.proofs.Fits.{few_words}
use Rattle.hir_def.proofs.item_scope.Along.{met_below}
use Rattle.find_path_local.specs.distances.Distances.{distance}
use Rattle.find_path_local.specs.distances.Post.{Lowers}
use Rattle.find_path_local.proofs.distances.Lowering.{lowers_same, lowers_on, lowers_ready}
use Rattle.find_path_local.proofs.distances.Marking.{marks, marks_down, along_start, along_next, along_done, marked_named}
use Rattle.find_path_local.proofs.distances.mark_scope.Goals as goal

pub loop-next-init : goal.loop-next-init
loop-next-init c =
    let W = c.args.records.now.words.now in
    let A = c.args.area.now in
    let l = c.args.records.now.layout in
    along_start Lowers lowers_same lowers_on W A l c.args.c.0 (marks W A l) (marks_down W A l)

pub invariant_of-db : goal.invariant_of-db
invariant_of-db c = record {
  reads =
      (lowers_ready c.args.records.now.words.now c.args.records.now.layout c.loop-next.invariant.moves c.requires
      c.loop-next.invariant.size).reads;
}

pub modules_in_scope-requires : goal.modules_in_scope-requires
modules_in_scope-requires c = (c.loop-next.invariant.within, c.loop-next.invariant.follows)

pub mark-requires : goal.mark-requires
mark-requires c =
    let W = c.args.records.now.words.now in
    let A = c.args.area.now in
    let x = next_record (c.modules_in_scope.ensures A) c.in-Some.is in
    let t = c.first_of-m.ensures A ∙ ap (λ y. (definition_of (snap_of W A c.args.records.now.layout) y).first) c.scope_definition.ensures in
    omega (arith, c.requires.reads.tables.limited.modules, met_below W A c.args.records.now.layout c.args.c.0 x c.requires.reads t)

pub overflow_add-k : goal.overflow_add-k
overflow_add-k c =
    let W = c.args.records.now.words.now in
    let A = c.args.area.now in
    let x = next_record (c.modules_in_scope.ensures A) c.in-Some.is in
    record { fits = omega (arith, x.below, few_words W A c.args.records.now.layout c.requires.reads) }

pub loop-next-smaller : goal.loop-next-smaller
loop-next-smaller c =
    let x = next_record (c.modules_in_scope.ensures c.args.area.now) c.in-Some.is in
    omega (arith, x.below, x.from)

pub loop-next-preserved : goal.loop-next-preserved
unfolding marks
loop-next-preserved c =
    let W = c.args.records.now.words.now in
    let A = c.args.area.now in
    let l = c.args.records.now.layout in
    let x = next_record (c.modules_in_scope.ensures A) c.in-Some.is in
    let t = c.first_of-m.ensures A ∙ ap (λ y. (definition_of (snap_of W A l) y).first) c.scope_definition.ensures in
    along_next Lowers lowers_same lowers_on W A l c.args.c.0 (marks W A l) (marks_down W A l) c.loop-next.invariant c.mark.new.area x c.mark.ensures.0
    (subst (λ y. distance c.mark.new.area y ≤ 1) t c.mark.ensures.1) (omega (arith, c.mark.array_long, c.told-area, c.loop-next.invariant.size))

pub returns-in_default : goal.returns-in_default
returns-in_default c =
    let W = c.args.records.now.words.now in
    let A = c.args.area.now in
    let l = c.args.records.now.layout in (
      c.loop-next.invariant.moves,
      marked_named W A l c.args.c.0 c.loop-next.area
          (along_done Lowers lowers_same lowers_on W A l c.args.c.0 (marks W A l) (marks_down W A l) c.loop-next.invariant
          (next_none (c.modules_in_scope.ensures A) c.in_default.is)),
    )
