use native.Mathlib.Omega.{arith}
use lib.ListN.{length-set}
use Rattle.imports.proofs.lists.Writing.{wrote_one, counted_one}
use Rattle.imports.proofs.lists.write.put_import.Goals as goal
use Rattle.imports.proofs.lists.write.put_import.Goals.{then-write, else-write}

pub bounds-target-at-then-write : goal.bounds-target-at-then-write
bounds-target-at-then-write c = let h = c.requires.1.room c.if-write.true in simp length-set (omega arith)

pub bounds-target-at-then-write-2 : goal.bounds-target-at-then-write-2
bounds-target-at-then-write-2 c = let h = c.requires.1.room c.if-write.true in simp length-set (omega arith)

pub bounds-target-at-then-write-3 : goal.bounds-target-at-then-write-3
bounds-target-at-then-write-3 c = let h = c.requires.1.room c.if-write.true in
    simp length-set (omega arith)

pub bounds-target-at-then-write-4 : goal.bounds-target-at-then-write-4
bounds-target-at-then-write-4 c = let h = c.requires.1.room c.if-write.true
    in simp length-set (omega arith)

pub bounds-target-at-then-write-5 : goal.bounds-target-at-then-write-5
bounds-target-at-then-write-5 c = let h = c.requires.1.room c.if-write.true
    in simp length-set (omega arith)

pub returns : goal.returns
returns c =
    let a = c.args in
    let i = a.import in
    elim c.if-write.branch [
      | then-write w ↦ rw (w.if-write.true, w.target-is) (wrote_one a.at i.krate.0 i.ns i.definition.0 i.name.0 i.module.0 i.bits a.target.now)
      | else-write w ↦ rw (w.if-write.false, w.target-is) (counted_one a.at i.krate.0 i.ns i.definition.0 i.name.0 i.module.0 i.bits a.target.now)
    ]
