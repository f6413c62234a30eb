use Prim.Native.Nat.{ℕ}
use mathlib.Core.List.{List}
use Rattle.snapshot.specs.Records.{scope_at}
use Rattle.told_paths.proofs.told_routes.Laws.{answers_entry}
use Rattle.snapshot.specs.Laid.{snap_by}
use Rattle.told_paths.proofs.told_routes.names.by_entry.Goals as goal

pub returns : goal.returns
returns c =
    λ (A : List ℕ). answers_entry (snap_by c.args.records.now A) (scope_at c.args.records.now.words.now c.args.h) (c.item_at-item.ensures A)
