use Prim.Native.Nat.{◌≤◌}
use Rattle.snapshot.specs.Records.{scope_at}
use Rattle.imports.proofs.lists.Writing.{Going, kept_at}
use Rattle.imports.proofs.lists.write.put_members.Given as goal

abbrev pub invariant-loop-k : goal.invariant-loop-k
invariant-loop-k l =
    let left = kept_at l.db.records.words.now l.db.records.layout l.c.0 (scope_at l.db.records.words.now l.entry) in
    (l.k ≤ l.db.records.layout.members) × Going l.write (left l.initial.k) l.initial.t l.initial.target (left l.k) l.t l.target

abbrev pub decreases-loop-k : goal.decreases-loop-k
decreases-loop-k l = l.k
