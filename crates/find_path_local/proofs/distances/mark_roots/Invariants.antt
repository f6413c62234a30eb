use Rattle.find_path_local.proofs.distances.Marking.{Rooting}
use Rattle.find_path_local.proofs.distances.mark_roots.Given as goal

abbrev pub invariant-loop-c : goal.invariant-loop-c
invariant-loop-c l = Rooting l.records.words.now l.initial.area l.records.layout l.area l.c
