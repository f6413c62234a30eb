use Prim.Native.Nat.{◌≤◌, ◌-◌}
use mathlib.Core.Path.{◌≡◌}
use Rattle.snapshot.specs.Lists.{rows, any}
use Rattle.nameable.specs.Breadth.{is_met}
use Rattle.any_path.specs.Rows.{way_at, run_at}
use Rattle.any_path.proofs.Written.{is_row}
use Rattle.any_path.proofs.rows.is_met.Given as goal

abbrev pub invariant-loop-i : goal.invariant-loop-i
invariant-loop-i l = (l.i ≤ l.n) × (is_met (run_at l.area l.n) l.m ≡ any (is_row l.area l.n l.m) (rows (way_at l.area) l.i (l.n - l.i)))
