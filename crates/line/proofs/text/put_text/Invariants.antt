use Prim.Native.Nat.{◌+◌, ◌≤◌}
use mathlib.Core.Path.{◌≡◌}
use lib.ListN.{length, take}
use Rattle.printing.specs.Output.{Put}
use Rattle.find_path_spec.specs.Line.{unpacked}
use Rattle.line.proofs.text.put_text.Given as goal

abbrev pub invariant-loop-i : goal.invariant-loop-i
invariant-loop-i l = (l.i ≤ l.n) × (length l.out ≡ length l.initial.out) × Put l.initial.out l.at (take l.i (unpacked l.text)) l.out (l.at + l.i)
