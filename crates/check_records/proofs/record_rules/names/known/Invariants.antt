use Prim.Native.Nat.{◌-◌, ◌≤◌}
use mathlib.Core.Path.{◌≡◌}
use lib.ListN.{get_or}
use Rattle.snapshot.specs.Lists.{rows, any}
use Rattle.snapshot.specs.Records.{name_at}
use Rattle.check_rules.specs.Tests.{same_name}
use Rattle.check_records.proofs.record_rules.names.known.Given as goal

abbrev pub invariant-loop-head : goal.invariant-loop-head
invariant-loop-head l = (l.head-index ≤ l.n)
    × (any (same_name (name_at l.words l.at)) (rows (λ j. name_at l.names (get_or l.heads j 0)) 0 l.n) ≡ any (same_name (name_at l.words l.at))
    (rows (λ j. name_at l.names (get_or l.heads j 0)) l.head-index (l.n - l.head-index)))
