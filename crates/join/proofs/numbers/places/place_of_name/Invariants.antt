use Prim.Native.Nat.{◌*◌, ◌-◌, ◌≤◌}
use mathlib.Core.Path.{◌≡◌}
use Rattle.snapshot.specs.Records.{name_at}
use Rattle.snapshot.specs.Layouts.{name_head}
use Rattle.check_rules.specs.Tests.{same_name}
use Rattle.hir_def.specs.Finds.{place_of}
use Rattle.join.specs.numbers.Parts.{names_from}
use Rattle.join.proofs.numbers.places.place_of_name.Given as goal

abbrev pub invariant-loop-k : goal.invariant-loop-k
invariant-loop-k l =
    (l.k ≤ l.count) × (l.at ≤ l.k * 268435456)
    × (place_of (same_name (name_at l.second (name_head l.area l.i))) 0 (names_from l.first 0 l.count)
    ≡ place_of (same_name (name_at l.second (name_head l.area l.i))) l.k
    (names_from l.first l.at (l.count - l.k)))
