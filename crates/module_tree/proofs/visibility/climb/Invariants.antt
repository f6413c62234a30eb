use Prim.Native.Nat.{◌<◌}
use mathlib.Core.Path.{◌≡◌}
use Rattle.snapshot.specs.Layouts.{snap_of}
use Rattle.module_tree.specs.rules.Visibility.{climb}
use Rattle.module_tree.proofs.visibility.climb.Given as goal

abbrev pub invariant-loop-t : goal.invariant-loop-t
invariant-loop-t l =
    (climb (snap_of l.db.records.words.now l.db.area.now l.db.records.layout) l.viewer l.initial.t.0
    ≡ climb (snap_of l.db.records.words.now l.db.area.now l.db.records.layout) l.viewer l.t.0) × (l.t.0 < l.db.records.layout.modules)

abbrev pub decreases-loop-t : goal.decreases-loop-t
decreases-loop-t l = l.t.0
