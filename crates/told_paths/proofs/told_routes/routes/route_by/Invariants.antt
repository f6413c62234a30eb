use Prim.Native.Nat.{ℕ}
use mathlib.Core.Path.{◌≡◌}
use Rattle.hir_def.specs.Items.{types}
use Rattle.nameable.specs.Paths.{keyword, reads, item_in}
use Rattle.told_paths.specs.told_routes.Routes.{keyword_by}
use Rattle.told_paths.proofs.told_routes.Walks.{Walked}
use Rattle.accept.specs.Opened.{snap_in}
use Rattle.told_paths.proofs.told_routes.routes.route_by.Given as goal

abbrev pub invariant-loop-k : goal.invariant-loop-k
invariant-loop-k l =
    (u : ℕ) → l.initial.here ≡ item_in (reads (snap_in l.view.db) l.view.from.0 types (keyword (keyword_by l.kind u)))
    → Walked (snap_in l.view.db) l.view.from.0 l.ns l.kind u l.names l.count l.here l.route l.k
