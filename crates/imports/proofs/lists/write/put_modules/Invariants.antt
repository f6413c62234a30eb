use Prim.Native.Nat.{◌≤◌}
use Rattle.imports.proofs.lists.Writing.{Going, imports_from}
use Rattle.imports.proofs.lists.write.put_modules.Given as goal

abbrev pub invariant-loop-i : goal.invariant-loop-i
invariant-loop-i l =
    let left = imports_from l.db.records.words.now l.db.area.now l.db.records.layout l.c.0 l.order in
    (l.i ≤ l.order) × Going l.write (left l.initial.i) l.initial.t l.initial.target (left l.i) l.t l.target
