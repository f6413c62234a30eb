use Prim.Native.Nat.{◌-◌}
use Rattle.snapshot.specs.Laid.{snap_by}
use Rattle.find_path_levels.specs.Levels.{levels_of}
use Rattle.find_path_local.specs.near.Numbers.{number, Relaxed}
use Rattle.find_path_local.specs.near.Post.{Falls}
use Rattle.find_path_local.proofs.distances.Marking.{Along}
use Rattle.find_path_local.proofs.near.relax_scope.Given as goal

abbrev pub invariant-loop-next : goal.invariant-loop-next
invariant-loop-next l =
    Along (Falls l.s.top l.d) l.records.words.now l.initial.area l.records.layout l.m.0
    (λ A. Relaxed (snap_by l.records l.initial.area) l.x (levels_of l.initial.area l.s.place l.s.depth) (number A l.s.top) l.d) l.area l.k

abbrev pub decreases-loop-next : goal.decreases-loop-next
decreases-loop-next l = l.records.layout.scopes - l.k
