use Prim.Native.Nat.{◌≤◌}
use mathlib.Core.Path.{◌≡◌}
use lib.ListN.{length}
use Rattle.find_path_local.specs.near.Post.{Begun}
use Rattle.find_path_local.proofs.near.begin.Given as goal

abbrev pub invariant-loop-m : goal.invariant-loop-m
invariant-loop-m l = Begun l.s.top l.m l.fn.area l.area × (length l.area ≡ length l.fn.area) × (l.m ≤ l.count)
