use Prim.Native.Nat.{◌-◌}
use Rattle.hir_def.proofs.Along.{On}
use Rattle.hir_def.proofs.chain.next_in_chain.Given as goal

abbrev pub invariant-loop-j : goal.invariant-loop-j
invariant-loop-j g l = On l.db.records.words.now l.db.area.now l.db.records.layout l.fn.chain l.key l.fn.k l.db.reads (goal.F-post g l.test) l.j

abbrev pub decreases-loop-j : goal.decreases-loop-j
decreases-loop-j g l = l.span.count - l.j
