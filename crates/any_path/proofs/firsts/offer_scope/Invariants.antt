use Prim.Native.Nat.{◌+◌, ◌*◌}
use Rattle.snapshot.specs.Sizes.{scope_size}
use Rattle.snapshot.specs.Records.{scope_at}
use Rattle.snapshot.specs.Layouts.{scope_base}
use Rattle.hir_def.specs.Items.{types}
use Rattle.nameable.specs.Paths.{is_seen_in, as_named}
use Rattle.any_path.proofs.Plains.{Trying}
use Rattle.snapshot.specs.Laid.{snap_by}
use Rattle.any_path.proofs.firsts.offer_scope.Given as goal

abbrev pub invariant-loop-k : goal.invariant-loop-k
invariant-loop-k l =
    let S = snap_by l.records l.initial.area in
    Trying (as_named S) (is_seen_in S l.from.0 types l.m.0) (λ j. scope_at l.records.words.now (scope_base l.records.layout + scope_size * j))
    l.records.layout.scopes l.records.layout.modules S l.from.0 l.initial.area l.n l.area l.count l.k
