use Rattle.told_paths.proofs.Unwound.{Counted}
use Rattle.told_paths.proofs.paths.names_in.Given as goal

abbrev pub invariant-loop-k : goal.invariant-loop-k
invariant-loop-k l = Counted l.area l.n l.link l.count l.k

abbrev pub decreases-loop-k : goal.decreases-loop-k
decreases-loop-k l = l.k
