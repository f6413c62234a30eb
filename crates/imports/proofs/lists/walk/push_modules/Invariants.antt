use Rattle.imports.proofs.lists.Walks.{Pushing}
use Rattle.imports.proofs.lists.walk.push_modules.Given as goal

abbrev pub invariant-loop-at : goal.invariant-loop-at
invariant-loop-at l = Pushing l.records.words.now l.initial.area l.records.layout l.n l.top l.initial.at l.area l.at l.t

abbrev pub decreases-loop-at : goal.decreases-loop-at
decreases-loop-at l = l.at
