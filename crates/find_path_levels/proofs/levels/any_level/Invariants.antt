use Prim.Native.Nat.{◌-◌}
use mathlib.Core.Bool.{Bool}
use lib.ListN.{length}
use Rattle.find_path_levels.specs.Levels.{Chain}
use Rattle.find_path_levels.specs.Each.{AnyBy}
use Rattle.find_path_levels.proofs.levels.any_level.Given as goal

abbrev pub invariant-loop-level : goal.invariant-loop-level
invariant-loop-level g l = Chain l.area l.p (l.fn.s.depth - l._level) (length l.area)
    × ((r : Bool) → AnyBy (goal.F-post g l.test) l.area l.p (l.fn.s.depth - l._level) r
    → AnyBy (goal.F-post g l.test) l.area l.fn.s.place l.fn.s.depth r)
