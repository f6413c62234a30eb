use Prim.Native.Nat.{◌-◌}
use mathlib.Core.Path.{◌≡◌}
use Rattle.hir_def.specs.Items.{ns_of}
use Rattle.nameable.specs.Breadth.{onward, first_to}
use Rattle.any_path.specs.Rows.{way_at, run_at}
use Rattle.snapshot.specs.Lists.{rows}
use Rattle.accept.specs.Opened.{snap_in}
use Rattle.told_paths.proofs.arrivals.rows.by_rows.Given as goal

abbrev pub invariant-loop-i : goal.invariant-loop-i
invariant-loop-i l =
    first_to (snap_in l.view.db) l.view.from.0 l.item (onward (snap_in l.view.db) l.view.from.0 (ns_of l.item) (run_at l.view.db.area.now l.n))
    ≡ first_to (snap_in l.view.db) l.view.from.0 l.item
    (onward (snap_in l.view.db) l.view.from.0 (ns_of l.item) (rows (way_at l.view.db.area.now) l.i (l.n - l.i)))
