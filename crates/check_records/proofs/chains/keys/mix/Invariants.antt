use Prim.Native.Nat.{◌+◌, ◌-◌, ◌≤◌, ◌<◌}
use mathlib.Core.Path.{◌≡◌}
use lib.ListN.{get_or}
use Rattle.snapshot.specs.Lists.{rows}
use Rattle.check_records.specs.chains.Chains.{mixed}
use Rattle.check_records.proofs.chains.keys.mix.Given as goal

abbrev pub invariant-loop-i : goal.invariant-loop-i
invariant-loop-i l = (l.a < 4294967296) × (l.i ≤ l.n)
    × (mixed l.bytes (rows (λ j. get_or l.words (l.head + 1 + j) 0) 0 l.n)
    ≡ mixed l.a (rows (λ j. get_or l.words (l.head + 1 + j) 0) l.i (l.n - l.i)))
