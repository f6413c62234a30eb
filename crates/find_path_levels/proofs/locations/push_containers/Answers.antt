use mathlib.Core.Path.{refl, ap, ◌∙◌}
use native.Mathlib.Omega.{arith}
use Rattle.hir_def.specs.Items.{containing}
use Rattle.hir_def.proofs.Climbs.{some_number, none_number}
use Rattle.find_path_levels.proofs.Stacks.{snap_at, reads_at, pushing_start, pushing_next, pushing_done}
use Rattle.find_path_levels.proofs.Nexts.{containers_end, containers_on, containers_less}
use Rattle.find_path_levels.proofs.locations.push_containers.Goals as goal

pub loop-c-init : goal.loop-c-init
loop-c-init c =
    (c.requires.1, pushing_start c.args.area.now _ _ c.args.sought.item _ c.requires.2)

pub invariant_of-db : goal.invariant_of-db
invariant_of-db c = let l = c.loop-c in record {
  reads = reads_at c.args.records.now.words.now c.args.area.now l.area _ c.args.s.top c.requires.0 c.requires.2.tables
      l.invariant.1.below;
}

pub containing_module-requires : goal.containing_module-requires
containing_module-requires c =
    let l = c.loop-c in l.invariant.0

pub returns-in_default : goal.returns-in_default
returns-in_default c =
    let l = c.loop-c in
    pushing_done _ _ _ _ _ l.invariant.1 (containers_end c.args.records.now.words.now c.args.area.now c.args.records.now.layout c.requires.0
    l.m.0 l.invariant.0 (c.containing_module.ensures ∙ ap (λ x. containing x l.m.0)
    (snap_at c.args.records.now.words.now c.args.area.now l.area c.args.records.now.layout c.args.s.top c.requires.0 c.requires.2.tables
    l.invariant.1.below)) (none_number _ refl c.in_default.is))

pub push_module-run-requires : goal.push_module-run-requires
push_module-run-requires c =
    let l = c.loop-c in (
      l.invariant.1.ready,
      omega (
        arith,
        c.requires.0.tables.limited.modules,
        l.invariant.0,
        containers_less c.args.records.now.words.now
            c.args.area.now c.args.records.now.layout c.requires.0 l.m.0 l.invariant.0 (c.containing_module.ensures
            ∙ ap (λ x. containing x l.m.0) (snap_at c.args.records.now.words.now c.args.area.now l.area c.args.records.now.layout
            c.args.s.top c.requires.0 c.requires.2.tables l.invariant.1.below)) (some_number _ refl c.in-Some.is),
      ),
    )

pub loop-c-smaller : goal.loop-c-smaller
loop-c-smaller c =
    let l = c.loop-c in
    containers_less c.args.records.now.words.now c.args.area.now c.args.records.now.layout c.requires.0 l.m.0 l.invariant.0
    (c.containing_module.ensures ∙ ap (λ x. containing x l.m.0)
    (snap_at c.args.records.now.words.now c.args.area.now l.area c.args.records.now.layout c.args.s.top c.requires.0 c.requires.2.tables
    l.invariant.1.below)) (some_number _ refl c.in-Some.is)

pub loop-c-preserved : goal.loop-c-preserved
loop-c-preserved c =
    let l = c.loop-c in
    let q = c.containing_module.ensures ∙ ap (λ x. containing x l.m.0)
    (snap_at c.args.records.now.words.now c.args.area.now l.area c.args.records.now.layout c.args.s.top c.requires.0 c.requires.2.tables
    l.invariant.1.below) in (
      omega (
        arith,
        l.invariant.0,
        containers_less c.args.records.now.words.now c.args.area.now c.args.records.now.layout c.requires.0 l.m.0
            l.invariant.0 q (some_number _ refl c.in-Some.is),
      ),
      pushing_next _ _ _ _ _ l.invariant.1
          (containers_on c.args.records.now.words.now c.args.area.now c.args.records.now.layout c.requires.0 l.m.0 l.invariant.0 q
          (some_number _ refl c.in-Some.is)) c.push_module-run.ensures c.push_module-run.auto.area,
    )
