use Rattle.told_paths.proofs.Unwound.{Unwound}
use Rattle.told_paths.proofs.paths.read.Given as goal

abbrev pub invariant-loop-k : goal.invariant-loop-k
invariant-loop-k l = Unwound l.area l.n l.link l.name l.names l.k l.x l.j

abbrev pub decreases-loop-k : goal.decreases-loop-k
decreases-loop-k l = l.k
