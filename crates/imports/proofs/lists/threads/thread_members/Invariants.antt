use Prim.Native.Nat.{◌+◌, ◌-◌, ◌*◌, ◌≤◌}
use Rattle.snapshot.specs.Records.{member_at}
use Rattle.imports.specs.lists.Threads.{Threads}
use Rattle.imports.proofs.lists.threads.thread_members.Given as goal

abbrev pub invariant-loop-j : goal.invariant-loop-j
invariant-loop-j l = (l.j ≤ l.count)
    × Threads l.records.layout.definitions l.heads l.links
    (λ i. (member_at l.records.words.now (l.base + 5 * (l.count - 1 - i))).parent) l.j l.initial.area l.area
