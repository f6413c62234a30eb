use mathlib.Core.Path.{◌≡◌}
use Prim.Native.Nat.{◌-◌, ◌<◌}
use Rattle.told_paths.proofs.told_routes.Laws.{above_means}
use Rattle.accept.specs.Opened.{snap_in}
use Rattle.told_paths.proofs.told_routes.starts.above.Given as goal

abbrev pub invariant-loop-step : goal.invariant-loop-step
invariant-loop-step l =
    (above_means (snap_in l.db) l.fn.supers l.initial.at.0
    ≡ above_means (snap_in l.db) (l.fn.supers - l._step) l.at.0) × (l.at.0 < l.db.records.layout.modules)
