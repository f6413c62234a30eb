use mathlib.Core.Path.{◌≡◌}
use lib.ListN.{length}
use Rattle.find_path_local.specs.distances.Post.{Sifted}
use Rattle.find_path_local.proofs.distances.sift.Given as goal

abbrev pub invariant-loop-k : goal.invariant-loop-k
invariant-loop-k l = Sifted l.records.words.now l.fn.area l.records.layout l.x l.area × (length l.area ≡ length l.fn.area)
