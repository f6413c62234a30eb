use Prim.Native.Nat.{ℕ, ◌≤◌}
use mathlib.Core.Path.{◌≡◌}
use mathlib.Core.List.{List, ◌∷◌}
use Rattle.std.specs.Prelude.{Option}
use Rattle.snapshot.specs.Records.{Scope}
use Rattle.hir_def.specs.Finds.{first_some}
use Rattle.hir_def.specs.Nameres.{steps}
use Rattle.hir_def.specs.Tests.{Outwards}
use Rattle.hir_def.proofs.finds.nearest.Given as goal

abbrev pub invariant-loop-h : goal.invariant-loop-h
invariant-loop-h g l = (l.m.0 ≤ l.fn.from.0)
    × ((W : List ℕ) (f : ℕ → Option Scope) (step : ℕ → ℕ)
    → Outwards (goal.F-post g l.find) (goal.S-post g l.outward) W f step l.fn.from.0
    → first_some f (l.fn.from.0 ∷ steps step l.fn.from.0) ≡ first_some f (l.m.0 ∷ steps step l.m.0))

abbrev pub decreases-loop-h : goal.decreases-loop-h
decreases-loop-h g l = l.m.0
