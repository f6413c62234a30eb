use Prim.Native.Nat.{◌+◌, ◌≤◌}
use mathlib.Core.Path.{◌≡◌}
use lib.ListN.{get_or}
use lib.Seq.{sets}
use Rattle.snapshot.specs.Lists.{rows}
use Rattle.join.proofs.records.write.copy.Given as goal

abbrev pub invariant-loop-i : goal.invariant-loop-i
invariant-loop-i l = (l.i ≤ l.n) × (l.target ≡ sets l.initial.target l.to (rows (λ j. get_or l.words (l.from + j) 0) 0 l.i))
