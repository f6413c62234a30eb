use Prim.Native.Nat.{◌≤◌}
use mathlib.Core.Path.{◌≡◌}
use lib.ListN.{length, get_or}
use Rattle.snapshot.specs.Laid.{snap_by}
use Rattle.find_path_levels.specs.Levels.{run_at, levels_of}
use Rattle.find_path_levels.specs.walk_once.Walked.{walk_at, walk_count}
use Rattle.find_path_local.specs.near.Post.{Turned}
use Rattle.find_path_local.proofs.near.relax.Given as goal

abbrev pub invariant-loop-k : goal.invariant-loop-k
invariant-loop-k l =
    Turned (snap_by l.records l.initial.area) l.x (levels_of l.initial.area l.s.place l.s.depth) (run_at l.initial.area walk_at l.k) l.s.top l.d
    l.initial.area l.area × (length l.area ≡ length l.initial.area) × (l.k ≤ get_or l.initial.area walk_count 0)
