use Prim.Native.Nat.{◌-◌}
use mathlib.Core.Path.{◌≡◌}
use Rattle.snapshot.specs.Lists.{rows}
use Rattle.any_path.specs.Rows.{way_at, run_at}
use Rattle.told_paths.specs.arrivals.Steps.{way_of}
use Rattle.told_paths.proofs.arrivals.rows.row_of.Given as goal

abbrev pub invariant-loop-i : goal.invariant-loop-i
invariant-loop-i l = way_of l.m.0 (run_at l.area l.n) ≡ way_of l.m.0 (rows (way_at l.area) l.i (l.n - l.i))
