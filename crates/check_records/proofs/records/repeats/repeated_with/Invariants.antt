use Prim.Native.Nat.{◌+◌, ◌*◌}
use mathlib.Core.Bool.{true}
use Rattle.check_records.specs.chains.Chains.{record_key}
use Rattle.check_records.proofs.chains.Laws.{Walking}
use Rattle.check_records.specs.record_rules.Stands.{same_by}
use Rattle.check_records.proofs.records.repeats.repeated_with.Given as goal

abbrev pub invariant-loop-k : goal.invariant-loop-k
invariant-loop-k l = Walking (same_by l.words true l.fields l.at) (λ j. l.base + l.size * j)
    (λ i. record_key l.words l.fields (l.base + l.size * i)) l.key l.count l.k

abbrev pub decreases-loop-k : goal.decreases-loop-k
decreases-loop-k l = l.k
