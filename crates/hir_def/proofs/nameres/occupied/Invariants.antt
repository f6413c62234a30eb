use Prim.Native.Nat.{◌<◌}
use mathlib.Core.Path.{◌≡◌}
use Rattle.hir_def.specs.Nameres.{occupied}
use Rattle.accept.specs.Opened.{snap_in}
use Rattle.hir_def.proofs.nameres.occupied.Given as goal

abbrev pub invariant-loop-m : goal.invariant-loop-m
invariant-loop-m l = (occupied (snap_in l.db) l.initial.a.0 l.m.0 l.name.0 ≡ occupied (snap_in l.db) l.a.0
    l.m.0 l.name.0) × (l.a.0 < l.db.records.layout.modules)

abbrev pub decreases-loop-m : goal.decreases-loop-m
decreases-loop-m l = l.a.0
