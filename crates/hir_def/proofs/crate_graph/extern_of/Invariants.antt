use Prim.Native.Nat.{◌+◌, ◌*◌, ◌≤◌}
use mathlib.Core.Path.{◌≡◌}
use mathlib.Core.List.{reverse}
use Rattle.snapshot.specs.Lists.{rows}
use Rattle.snapshot.specs.Sizes.{extern_size}
use Rattle.snapshot.specs.Records.{extern_at}
use Rattle.hir_def.specs.Finds.{first_of}
use Rattle.hir_def.specs.Nameres.{is_extern}
use Rattle.hir_def.proofs.crate_graph.extern_of.Given as goal

abbrev pub invariant-loop-k : goal.invariant-loop-k
invariant-loop-k l = (l.k ≤ l.db.records.layout.externs)
    × (first_of (is_extern l.c.0 l.m.0)
    (reverse (rows (λ i. extern_at l.db.records.words.now (l.base + extern_size * i)) 0 l.db.records.layout.externs))
    ≡ first_of (is_extern l.c.0 l.m.0) (reverse (rows (λ i. extern_at l.db.records.words.now (l.base + extern_size * i)) 0 l.k)))
