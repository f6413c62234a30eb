use Prim.Native.Nat.{◌-◌}
use Rattle.snapshot.specs.Laid.{snap_by}
use Rattle.find_path_local.specs.distances.Distances.{distance, Relaxed, Tried}
use Rattle.find_path_local.specs.distances.Post.{Lowers, Steps}
use Rattle.find_path_local.proofs.distances.Marking.{Along}
use Rattle.find_path_local.proofs.distances.relax_scope.Given as goal

abbrev pub invariant-loop-next : goal.invariant-loop-next
invariant-loop-next l =
    Along Lowers l.records.words.now l.initial.area l.records.layout l.m.0 (λ A. Relaxed (snap_by l.records l.initial.area) l.x (distance A) l.d)
    l.area l.k
    × Steps l.initial.area l.d l.area l.changed × Tried (snap_by l.records l.initial.area) l.x l.tried

abbrev pub decreases-loop-next : goal.decreases-loop-next
decreases-loop-next l = l.records.layout.scopes - l.k
