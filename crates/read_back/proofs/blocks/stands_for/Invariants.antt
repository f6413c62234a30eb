use Prim.Native.Nat.{◌<◌}
use mathlib.Core.Path.{◌≡◌}
use Rattle.read_back.specs.readings.Reads.{stands_for}
use Rattle.accept.specs.Opened.{snap_in}
use Rattle.read_back.proofs.blocks.stands_for.Given as goal

abbrev pub invariant-loop-b : goal.invariant-loop-b
invariant-loop-b l = (stands_for (snap_in l.db) l.initial.t.0 ≡ stands_for (snap_in l.db) l.t.0) × (l.t.0 < l.db.records.layout.modules)

abbrev pub decreases-loop-b : goal.decreases-loop-b
decreases-loop-b l = l.t.0
