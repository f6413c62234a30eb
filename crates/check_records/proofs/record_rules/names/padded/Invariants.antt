use Prim.Native.Nat.{◌+◌, ◌-◌, ◌≤◌}
use mathlib.Core.Path.{◌≡◌}
use lib.ListN.{get_or}
use Rattle.snapshot.specs.Lists.{rows}
use Rattle.check_rules.specs.Tests.{padded}
use Rattle.check_records.proofs.record_rules.names.padded.Given as goal

abbrev pub invariant-loop-i : goal.invariant-loop-i
invariant-loop-i l = (l.i ≤ l.n)
    × (padded l.bytes (rows (λ j. get_or l.words (l.head + 1 + j) 0) 0 l.n)
    ≡ padded l.b (rows (λ j. get_or l.words (l.head + 1 + j) 0) l.i (l.n - l.i)))
