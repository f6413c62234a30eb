use Rattle.find_path_local.proofs.distances.Marking.{Climbing}
use Rattle.find_path_local.proofs.distances.mark_scopes.Given as goal

abbrev pub invariant-loop-b : goal.invariant-loop-b
invariant-loop-b l = Climbing l.records.words.now l.initial.area l.records.layout l.initial.m.0 l.area l.m.0

abbrev pub decreases-loop-b : goal.decreases-loop-b
decreases-loop-b l = l.m.0
