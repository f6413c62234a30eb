use Prim.Native.Nat.{◌≤◌}
use Rattle.imports.proofs.lists.Writing.{Going, imports_at}
use Rattle.imports.proofs.lists.write.put_module.Given as goal

abbrev pub invariant-loop-k : goal.invariant-loop-k
invariant-loop-k l =
    let left = imports_at l.db.records.words.now l.db.area.now l.db.records.layout l.n l.c.0 in
    (l.k ≤ l.n) × Going l.write (left l.initial.k) l.initial.t l.initial.target (left l.k) l.t l.target

abbrev pub decreases-loop-k : goal.decreases-loop-k
decreases-loop-k l = l.k
