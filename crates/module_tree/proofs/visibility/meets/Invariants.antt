use Prim.Native.Nat.{◌<◌}
use mathlib.Core.Path.{◌≡◌}
use Rattle.snapshot.specs.Layouts.{snap_of}
use Rattle.module_tree.specs.rules.Modules.{containing}
use Rattle.module_tree.specs.rules.Visibility.{met}
use Rattle.module_tree.proofs.visibility.meets.Given as goal

abbrev pub invariant-loop-v : goal.invariant-loop-v
invariant-loop-v l =
    (met (containing (snap_of l.db.records.words.now l.db.area.now l.db.records.layout)) l.initial.v.0 l.t
    ≡ met (containing (snap_of l.db.records.words.now l.db.area.now l.db.records.layout)) l.v.0 l.t)
    × (l.v.0 < l.db.records.layout.modules)

abbrev pub decreases-loop-v : goal.decreases-loop-v
decreases-loop-v l = l.v.0
