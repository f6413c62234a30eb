use Rattle.reach.proofs.Laws.{Reaching}
use Rattle.reach.proofs.counts.reach_in.Given as goal

abbrev pub invariant-loop-k : goal.invariant-loop-k
invariant-loop-k l = Reaching l.records.words.now l.initial.area l.records.layout l.v l.area l.reach.counts l.k
