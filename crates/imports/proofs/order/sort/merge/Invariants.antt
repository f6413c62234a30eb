use Prim.Native.Nat.{◌+◌, ◌-◌}
use Rattle.imports.specs.order.Lists.{order_of, entries_at, merge_by}
use Rattle.imports.specs.order.Rooms.{spare_room}
use Rattle.imports.proofs.order.Merges.{Merging}
use Rattle.imports.proofs.order.sort.merge.Given as goal

abbrev pub invariant-loop-i : goal.invariant-loop-i
invariant-loop-i l =
    Merging l.records.words.now (order_of l.records.words.now l.initial.area l.records.layout)
    (merge_by (order_of l.records.words.now l.initial.area l.records.layout) (entries_at l.records.words.now l.initial.area spare_room l.m)
    (entries_at l.records.words.now l.initial.area (l.from + l.m) l.n))
    l.initial.area l.area l.from l.m l.n l.i l.j

abbrev pub decreases-loop-i : goal.decreases-loop-i
decreases-loop-i l = l.m + l.n - (l.i + l.j)
