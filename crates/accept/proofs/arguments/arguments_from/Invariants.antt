use Prim.Native.Nat.{◌-◌, ◌≤◌}
use mathlib.Core.Path.{◌≡◌}
use Rattle.check_rules.specs.Verdict.{arguments_from}
use Rattle.accept.proofs.arguments.arguments_from.Given as goal

abbrev pub invariant-loop-i : goal.invariant-loop-i
invariant-loop-i l = (l.i ≤ l.i-end) × (arguments_from l.words l.fn.at l.fn.n ≡ arguments_from l.words l.i (l.i-end - l.i))
