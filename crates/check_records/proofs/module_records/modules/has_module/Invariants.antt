use Prim.Native.Nat.{◌-◌, ◌≤◌}
use mathlib.Core.Path.{◌≡◌}
use Rattle.snapshot.specs.Lists.{rows, any}
use Rattle.snapshot.specs.Layouts.{module_row, modules_of}
use Rattle.check_rules.specs.Tests.{is_in}
use Rattle.check_records.proofs.module_records.modules.has_module.Given as goal

abbrev pub invariant-loop-m : goal.invariant-loop-m
invariant-loop-m l = (l.m ≤ l.n) × (any (is_in l.map) (modules_of l.area l.n) ≡ any (is_in l.map) (rows (module_row l.area) l.m (l.n - l.m)))
