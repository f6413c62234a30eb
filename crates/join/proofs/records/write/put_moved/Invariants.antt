use Prim.Native.Nat.{◌-◌}
use Rattle.join.specs.records.Moves.{moved_run}
use Rattle.join.proofs.records.Laws.{Walking}
use Rattle.join.proofs.records.write.put_moved.Given as goal

abbrev pub invariant-loop-at : goal.invariant-loop-at
invariant-loop-at l =
    Walking l.write l.second.area.now l.second.first l.second.words.now
    (moved_run l.second.area.now l.second.first l.second.words.now l.from l.end) l.to l.initial.target l.end l.at l.n l.t l.target

abbrev pub decreases-loop-at : goal.decreases-loop-at
decreases-loop-at l = l.end - l.at
