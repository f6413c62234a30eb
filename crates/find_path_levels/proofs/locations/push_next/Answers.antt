use mathlib.Core.Path.{refl, ap, ◌∙◌}
use native.Mathlib.Omega.{arith}
use mathlib.Core.Bool.{◌&&◌}
use lib.Dec.{eqb}
use Rattle.snapshot.specs.Records.{scope_at}
use Rattle.snapshot.specs.Layouts.{snap_of}
use Rattle.hir_def.specs.Items.{crate_of, definition_of}
use Rattle.module_tree.specs.rules.Visibility.{sees}
use Rattle.hir_def.proofs.Lookups.{next_record, next_none}
use Rattle.hir_def.proofs.Fits.{few_words, module_meets}
use Rattle.find_path_levels.proofs.Stacks.{snap_at, reads_at, pushing_start, pushing_skip, pushing_next, pushing_done}
use Rattle.hir_def.proofs.item_scope.Along.{met_follows, met_below}
use Rattle.find_path_levels.proofs.Nexts.{leads_start, leads_hit, leads_miss, leads_end}
use Rattle.find_path_levels.proofs.locations.push_next.Goals as goal
use Rattle.find_path_levels.proofs.locations.push_next.Goals.{then-leads, else-leads}

pub loop-next-init : goal.loop-next-init
loop-next-init c = (
  pushing_skip _ _ _ _ _ (pushing_start c.args.area.now _ _ c.args.sought.item _ c.requires.2)
      (leads_start c.args.records.now.words.now c.args.area.now c.args.records.now.layout c.args.from.0 c.args.m.0) refl refl,
  omega arith,
  λ h. absurd (omega arith),
)

pub modules_in_scope-requires : goal.modules_in_scope-requires
modules_in_scope-requires c = (c.loop-next.invariant.1, c.loop-next.invariant.2)

pub invariant_of-db : goal.invariant_of-db
invariant_of-db c =
    record { reads = reads_at _ _ _ _ c.args.s.top c.requires.0 c.requires.2.tables c.loop-next.invariant.0.below }

pub leads-requires : goal.leads-requires
leads-requires c =
    let W = c.args.records.now.words.now in
    let A = c.args.area.now in
    let x = next_record (c.modules_in_scope.ensures A) c.in-Some.is in
    let t = c.first_of.ensures A ∙ ap (λ y. (definition_of (snap_of W A c.args.records.now.layout) y).first) c.scope_definition.ensures in (
      c.requires.1,
      met_below W A c.args.records.now.layout c.args.m.0 x c.requires.0 t,
      (module_meets W A c.args.records.now.layout c.requires.0 x).inside,
    )

pub push_module-run-requires : goal.push_module-run-requires
push_module-run-requires c =
    let l = c.loop-next in
    let W = c.args.records.now.words.now in
    let A = c.args.area.now in
    let x = next_record (c.modules_in_scope.ensures A) c.in-Some.is in
    let t = c.first_of.ensures A ∙ ap (λ y. (definition_of (snap_of W A c.args.records.now.layout) y).first) c.scope_definition.ensures in (
      l.invariant.0.ready,
      omega (
        arith,
        c.requires.0.tables.limited.modules,
        met_below W A c.args.records.now.layout c.args.m.0 x c.requires.0 t,
      ),
    )

pub overflow_add-k : goal.overflow_add-k
overflow_add-k c =
    let l = c.loop-next in
    let W = c.args.records.now.words.now in
    let A = c.args.area.now in
    let x = next_record (c.modules_in_scope.ensures A) c.in-Some.is in
    record { fits = omega (arith, x.below, few_words W A c.args.records.now.layout c.requires.0) }

pub loop-next-smaller : goal.loop-next-smaller
loop-next-smaller c =
    let l = c.loop-next in
    let W = c.args.records.now.words.now in
    let A = c.args.area.now in
    let x = next_record (c.modules_in_scope.ensures A) c.in-Some.is in
    omega (arith, x.below, x.from)

pub loop-next-preserved : goal.loop-next-preserved
loop-next-preserved c =
    let l = c.loop-next in
    let W = c.args.records.now.words.now in
    let A = c.args.area.now in
    let x = next_record (c.modules_in_scope.ensures A) c.in-Some.is in
    let t = c.first_of.ensures A ∙ ap (λ y. (definition_of (snap_of W A c.args.records.now.layout) y).first) c.scope_definition.ensures in
    let q = c.leads.ensures ∙ ap (λ y. eqb (crate_of y c.first_of.result) (crate_of y c.args.from.0) && sees y
    c.args.from.0 (scope_at W c.in-Some.next.head)) (snap_at W A l.area c.args.records.now.layout c.args.s.top c.requires.0
    c.requires.2.tables l.invariant.0.below) in
    let k = met_follows W A c.args.records.now.layout c.args.m.0 x in (
      elim c.if-leads.branch [
        | then-leads w ↦ pushing_skip _ _ _ _ _ (pushing_next _ _ _ _ _ l.invariant.0 (leads_hit W A c.args.records.now.layout c.args.from.0
            c.args.m.0 x t q w.if-leads.true) w.push_module-run.ensures w.push_module-run.auto.area) refl w.area-is w.run-is
        | else-leads w ↦ pushing_skip _ _ _ _ _ l.invariant.0 (leads_miss W A c.args.records.now.layout c.args.from.0
            c.args.m.0 x t q w.if-leads.false) w.area-is w.run-is
      ],
      omega (arith, x.below),
      k,
    )

pub returns-in_default : goal.returns-in_default
returns-in_default c =
    let A = c.args.area.now in
    pushing_done _ _ _ _ _ c.loop-next.invariant.0 (leads_end c.args.records.now.words.now A c.args.records.now.layout c.args.from.0
    c.args.m.0 (next_none (c.modules_in_scope.ensures A) c.in_default.is))
