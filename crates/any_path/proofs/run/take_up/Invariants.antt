use Prim.Native.Nat.{◌-◌}
use Rattle.any_path.proofs.Runs.{Queueing}
use Rattle.any_path.proofs.run.take_up.Given as goal

abbrev pub invariant-loop-i : goal.invariant-loop-i
invariant-loop-i l = Queueing l.records.words.now l.initial.area l.records.layout l.from.0 l.start l.n l.area l.count l.i

abbrev pub decreases-loop-i : goal.decreases-loop-i
decreases-loop-i l = l.records.layout.modules - l.i
