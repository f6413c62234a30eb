use Rattle.any_path.proofs.Runs.{Spreading}
use Rattle.any_path.proofs.run.expand_all.Given as goal

abbrev pub invariant-loop-i : goal.invariant-loop-i
invariant-loop-i l = Spreading l.records.words.now l.initial.area l.records.layout l.from.0 l.n l.area l.count l.i
