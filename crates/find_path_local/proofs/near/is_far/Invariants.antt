use Rattle.find_path_local.proofs.near.Turning.{Nearing}
use Rattle.find_path_local.proofs.near.is_far.Given as goal

abbrev pub invariant-loop-d : goal.invariant-loop-d
invariant-loop-d l = Nearing l.records.words.now l.fn.area l.records.layout l.x l.s l.area l.d
