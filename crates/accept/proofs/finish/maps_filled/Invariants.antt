use Prim.Native.Nat.{◌-◌, ◌≤◌}
use mathlib.Core.Path.{◌≡◌}
use Rattle.snapshot.specs.Lists.{rows, any, all}
use Rattle.snapshot.specs.Layouts.{modules_of}
use Rattle.check_rules.specs.Tests.{is_in}
use Rattle.accept.proofs.finish.maps_filled.Given as goal

abbrev pub invariant-loop-k : goal.invariant-loop-k
invariant-loop-k l = (l.k ≤ l.maps)
    × (all (λ j. any (is_in j) (modules_of l.area l.modules)) (rows (λ j. j) 0 l.maps) ≡ all (λ j. any (is_in j) (modules_of l.area l.modules))
    (rows (λ j. j) l.k (l.maps - l.k)))
