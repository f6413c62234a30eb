use Prim.Native.Nat.{ℕ, ◌+◌, ◌-◌, ◌*◌}
use mathlib.Core.Path.{◌≡◌}
use mathlib.Core.List.{List}
use Rattle.snapshot.specs.Lists.{rows, any}
use Rattle.snapshot.specs.Sizes.{scope_size}
use Rattle.snapshot.specs.Layouts.{scope_base, records_of}
use Rattle.snapshot.specs.Records.{scope_at}
use Rattle.hir_def.specs.Items.{same_item}
use Rattle.reach.specs.parts.Reach.{item_in, is_met}
use Rattle.snapshot.specs.Laid.{snap_by}
use Rattle.reach.proofs.parts.firsts.is_met.Given as goal

abbrev pub invariant-loop-j : goal.invariant-loop-j
invariant-loop-j l =
    (A : List ℕ) → is_met (snap_by l.records A) (records_of scope_at scope_size l.records.words.now (scope_base l.records.layout) l.k)
    (scope_at l.records.words.now (scope_base l.records.layout + scope_size * l.k))
    ≡ any (λ d. same_item (item_in (snap_by l.records A) d)
    (item_in (snap_by l.records A) (scope_at l.records.words.now (scope_base l.records.layout + scope_size * l.k))))
    (rows (λ i. scope_at l.records.words.now (scope_base l.records.layout + scope_size * i)) l.j (l.k - l.j))
