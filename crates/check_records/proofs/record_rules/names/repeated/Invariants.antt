use lib.ListN.{get_or}
use Rattle.snapshot.specs.Records.{name_at}
use Rattle.check_records.specs.chains.Chains.{name_key}
use Rattle.check_records.proofs.chains.Laws.{Walking}
use Rattle.check_rules.specs.Tests.{same_name}
use Rattle.check_records.proofs.record_rules.names.repeated.Given as goal

abbrev pub invariant-loop-k : goal.invariant-loop-k
invariant-loop-k l = Walking (same_name (name_at l.words l.at)) (λ j. name_at l.words (get_or l.area j 0))
    (λ i. name_key (name_at l.words (get_or l.area i 0))) l.key l.n l.k

abbrev pub decreases-loop-k : goal.decreases-loop-k
decreases-loop-k l = l.k
