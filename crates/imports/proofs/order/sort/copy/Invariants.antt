use Prim.Native.Nat.{◌≤◌}
use Rattle.imports.specs.order.Lists.{Copied}
use Rattle.imports.proofs.order.sort.copy.Given as goal

abbrev pub invariant-loop-i : goal.invariant-loop-i
invariant-loop-i l = (l.i ≤ l.n) × Copied l.initial.area l.area l.from l.i
