use Rattle.imports.specs.lists.Walks.{turns_at}
use Rattle.imports.proofs.lists.Walks.{Going}
use Rattle.imports.proofs.lists.walk.walk.Given as goal

abbrev pub invariant-loop-top : goal.invariant-loop-top
invariant-loop-top l = Going l.records.words.now l.initial.area l.records.layout l.n l.initial.k l.initial.top l.area l.k l.top

abbrev pub decreases-loop-top : goal.decreases-loop-top
decreases-loop-top l = turns_at l.records.words.now l.area l.records.layout l.k l.top
