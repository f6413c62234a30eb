use Prim.Native.Nat.{◌+◌, ◌*◌}
use lib.Dec.{eqb}
use Rattle.snapshot.specs.Sizes.{extern_size}
use Rattle.snapshot.specs.Records.{Extern, extern_at}
use Rattle.snapshot.specs.Layouts.{extern_base}
use Rattle.module_tree.specs.rules.Modules.{crate_of}
use Rattle.nameable.specs.Paths.{extern_named}
use Rattle.any_path.proofs.Plains.{Trying}
use Rattle.snapshot.specs.Laid.{snap_by}
use Rattle.any_path.proofs.firsts.offer_externs.Given as goal

abbrev pub invariant-loop-k : goal.invariant-loop-k
invariant-loop-k l =
    let S = snap_by l.records l.initial.area in
    Trying extern_named (λ (x : Extern). eqb x.owner (crate_of S l.from.0))
    (λ j. extern_at l.records.words.now (extern_base l.records.layout + extern_size * j)) l.records.layout.externs l.records.layout.modules S
    l.from.0 l.initial.area l.n l.area l.count l.k
