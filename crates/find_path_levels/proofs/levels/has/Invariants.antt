use Prim.Native.Nat.{◌≤◌, ◌-◌, ◌+◌}
use mathlib.Core.Path.{◌≡◌}
use lib.Dec.{eqb}
use lib.ListN.{get_or}
use Rattle.snapshot.specs.Lists.{rows, any}
use Rattle.find_path_spec.specs.Walk.{has}
use Rattle.find_path_levels.specs.Levels.{run_at}
use Rattle.find_path_levels.proofs.levels.has.Given as goal

abbrev pub invariant-loop-i : goal.invariant-loop-i
invariant-loop-i l =
    (l.i ≤ l.n) × (has (run_at l.area l.from l.n) l.m.0 ≡ any (eqb l.m.0) (rows (λ k. get_or l.area (l.from + k) 0) l.i (l.n - l.i)))
