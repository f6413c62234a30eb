use Prim.Native.Nat.{◌-◌, ◌≤◌}
use mathlib.Core.Path.{◌≡◌}
use mathlib.Core.Bool.{not}
use lib.Dec.{eqb}
use Rattle.snapshot.specs.Lists.{rows, all}
use Rattle.snapshot.specs.Layouts.{own_map}
use Rattle.accept.proofs.finish.crates_own.Given as goal

abbrev pub invariant-loop-c : goal.invariant-loop-c
invariant-loop-c l = (l.c ≤ l.crates)
    × (all (λ j. not (eqb (own_map l.area j) 0)) (rows (λ j. j) 0 l.crates)
    ≡ all (λ j. not (eqb (own_map l.area j) 0)) (rows (λ j. j) l.c (l.crates - l.c)))
