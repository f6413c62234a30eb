use Prim.Native.Nat.{◌-◌}
use Rattle.find_path_local.specs.distances.Post.{Lowers}
use Rattle.find_path_local.proofs.distances.Marking.{Along, marks}
use Rattle.find_path_local.proofs.distances.mark_scope.Given as goal

abbrev pub invariant-loop-next : goal.invariant-loop-next
invariant-loop-next l =
    Along Lowers l.records.words.now l.initial.area l.records.layout l.c.0 (marks l.records.words.now l.initial.area l.records.layout) l.area l.k

abbrev pub decreases-loop-next : goal.decreases-loop-next
decreases-loop-next l = l.records.layout.scopes - l.k
