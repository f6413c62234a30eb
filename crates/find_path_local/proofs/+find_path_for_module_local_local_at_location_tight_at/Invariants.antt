use Rattle.find_path_local.proofs.Nests.{Nesting}
use Prim.Native.Nat.{◌+◌, ◌*◌}
use Rattle.find_path_choice.specs.Given.{given}
use Rattle.snapshot.specs.Laid.{snap_by}
use Rattle.find_path_local.proofs.+find_path_for_module_local_local_at_location_tight_at.Given as goal

abbrev pub decreases-find_path_for_module_local : goal.decreases-find_path_for_module_local
decreases-find_path_for_module_local l = 4 * l.left + 3

abbrev pub decreases-local_at : goal.decreases-local_at
decreases-local_at l = 4 * l.left + 1

abbrev pub decreases-location : goal.decreases-location
decreases-location l = 4 * l.left

abbrev pub decreases-tight_at : goal.decreases-tight_at
decreases-tight_at l = 4 * l.left + 2

abbrev pub invariant-local_at-loop-k : goal.invariant-local_at-loop-k
invariant-local_at-loop-k l =
    Nesting l.records.words.now l.records.layout (snap_by l.records l.initial.area) l.x l.left l.sought.item l.initial.area l.s l.n l.area
    (given l.best) l.k
