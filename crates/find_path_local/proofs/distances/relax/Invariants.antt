use Prim.Native.Nat.{◌≤◌}
use mathlib.Core.Path.{◌≡◌}
use lib.ListN.{length, get_or}
use Rattle.snapshot.specs.Laid.{snap_by}
use Rattle.find_path_levels.specs.Levels.{run_at}
use Rattle.find_path_levels.specs.walk_once.Walked.{walk_at, walk_count}
use Rattle.find_path_local.specs.distances.Distances.{Tried}
use Rattle.find_path_local.specs.distances.Post.{Round}
use Rattle.find_path_local.proofs.distances.relax.Given as goal

abbrev pub invariant-loop-k : goal.invariant-loop-k
invariant-loop-k l =
    Round (snap_by l.records l.initial.area) l.x l.initial.area (run_at l.initial.area walk_at l.k) l.d l.area l.more
    × (length l.area ≡ length l.initial.area) × (l.k ≤ get_or l.initial.area walk_count 0)
    × Tried (snap_by l.records l.initial.area) l.x l.tried
