use Prim.Native.Nat.{◌<◌}
use Rattle.hir_def.specs.Nameres.{containers}
use Rattle.find_path_levels.proofs.Stacks.{Pushing}
use Rattle.snapshot.specs.Laid.{snap_by}
use Rattle.find_path_levels.proofs.locations.push_containers.Given as goal

abbrev pub invariant-loop-c : goal.invariant-loop-c
invariant-loop-c l =
    (l.m.0 < l.records.layout.modules) × Pushing l.initial.area l.s l.n l.sought.item
    (containers (snap_by l.records l.initial.area) l.initial.m.0) l.area l.run (containers (snap_by l.records l.initial.area) l.m.0)

abbrev pub decreases-loop-c : goal.decreases-loop-c
decreases-loop-c l = l.m.0
