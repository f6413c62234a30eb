use Prim.Native.Nat.{◌≤◌}
use Rattle.imports.specs.order.Rooms.{heads_room, spare_room}
use Rattle.imports.specs.lists.Threads.{entry_of, Threads}
use Rattle.imports.proofs.lists.threads.thread_entries.Given as goal

abbrev pub invariant-loop-j : goal.invariant-loop-j
invariant-loop-j l = (l.j ≤ l.n) × Threads 512 heads_room spare_room (λ i. (entry_of l.words l.initial.area l.n i).owner) l.j l.initial.area l.area
