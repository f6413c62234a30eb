use Prim.Native.Nat.{◌<◌}
use mathlib.Core.Path.{◌≡◌}
use Rattle.module_tree.specs.rules.Privately.{module_around}
use Rattle.accept.specs.Opened.{snap_in}
use Rattle.any_path.proofs.seen_entries.privacy.module_around.Given as goal

abbrev pub invariant-loop-b : goal.invariant-loop-b
invariant-loop-b l = (module_around (snap_in l.db) l.initial.t.0 ≡ module_around (snap_in l.db) l.t.0) × (l.t.0 < l.db.records.layout.modules)

abbrev pub decreases-loop-b : goal.decreases-loop-b
decreases-loop-b l = l.t.0
