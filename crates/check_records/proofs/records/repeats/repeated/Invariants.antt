use Prim.Native.Nat.{◌+◌, ◌-◌, ◌*◌}
use mathlib.Core.Path.{◌≡◌}
use Rattle.snapshot.specs.Lists.{rows, any}
use Rattle.check_records.specs.record_rules.Stands.{same_by}
use Rattle.check_records.proofs.records.repeats.repeated.Given as goal

abbrev pub invariant-loop-k : goal.invariant-loop-k
invariant-loop-k l = any (same_by l.words l.owner l.fields l.at) (rows (λ j. l.base + l.size * j) 0 l.count)
    ≡ any (same_by l.words l.owner l.fields l.at) (rows (λ j. l.base + l.size * j) l.k (l.count - l.k))
