use Rattle.snapshot.specs.Laid.{snap_by}
use Rattle.find_path_local.specs.distances.Distances.{Tried}
use Rattle.find_path_local.proofs.distances.Relaxing.{Settling}
use Rattle.find_path_local.proofs.distances.set_distances.Given as goal

abbrev pub invariant-loop-d : goal.invariant-loop-d
invariant-loop-d l = Settling l.records.words.now l.fn.area l.records.layout l.x l.area l.d × Tried (snap_by l.records l.fn.area) l.x l.tried
