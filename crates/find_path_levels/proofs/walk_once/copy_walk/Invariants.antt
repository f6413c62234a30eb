use Prim.Native.Nat.{◌≤◌}
use mathlib.Core.Path.{◌≡◌}
use lib.ListN.{length}
use Rattle.find_path_levels.specs.walk_once.Post.{Copied}
use Rattle.find_path_levels.proofs.walk_once.copy_walk.Given as goal

abbrev pub invariant-loop-i : goal.invariant-loop-i
invariant-loop-i l = Copied l.initial.area l.to l.i l.area × (length l.area ≡ length l.initial.area) × (l.i ≤ l.n)
