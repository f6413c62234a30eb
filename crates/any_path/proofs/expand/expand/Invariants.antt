use Rattle.any_path.proofs.Taken.{Expanding}
use Rattle.any_path.proofs.expand.expand.Given as goal

abbrev pub invariant-loop-k : goal.invariant-loop-k
invariant-loop-k l = Expanding l.records.words.now l.initial.area l.records.layout l.from.0 l.i l.n l.area l.count l.k
