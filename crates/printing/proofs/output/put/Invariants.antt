use Prim.Native.Nat.{◌+◌, ◌≤◌}
use mathlib.Core.Path.{◌≡◌}
use lib.ListN.{length, take}
use Rattle.printing.specs.Output.{Put}
use Rattle.printing.proofs.output.put.Given as goal

abbrev pub invariant-loop-i : goal.invariant-loop-i
invariant-loop-i l = (l.i ≤ length l.text) × (length l.out ≡ length l.initial.out) × Put l.initial.out l.at (take l.i l.text) l.out (l.at + l.i)
