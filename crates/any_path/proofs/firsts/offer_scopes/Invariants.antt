use Rattle.any_path.proofs.Plains.{Around}
use Rattle.any_path.proofs.firsts.offer_scopes.Given as goal

abbrev pub invariant-loop-b : goal.invariant-loop-b
invariant-loop-b l =
    Around l.records.words.now l.initial.area l.records.layout l.from.0 l.n l.area l.count l.m.0

abbrev pub decreases-loop-b : goal.decreases-loop-b
decreases-loop-b l = l.m.0
