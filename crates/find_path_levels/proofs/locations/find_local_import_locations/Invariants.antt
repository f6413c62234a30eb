use Prim.Native.Nat.{◌-◌}
use Rattle.snapshot.specs.Limits.{module_limit}
use Rattle.find_path_levels.proofs.Gathers.{Walking}
use Rattle.snapshot.specs.Laid.{snap_by}
use Rattle.find_path_levels.proofs.locations.find_local_import_locations.Given as goal

abbrev pub invariant-loop-k : goal.invariant-loop-k
invariant-loop-k l =
    Walking (snap_by l.records l.initial.area) l.from.0 l.initial.area l.s l.sought.item l.initial.n l.area l.n l.k

abbrev pub decreases-loop-k : goal.decreases-loop-k
decreases-loop-k l = module_limit - l.k
