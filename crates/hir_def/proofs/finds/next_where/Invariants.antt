use Prim.Native.Nat.{◌≤◌}
use Rattle.hir_def.specs.Tests.{PassedBy}
use Rattle.hir_def.proofs.finds.next_where.Given as goal

abbrev pub invariant-loop-j : goal.invariant-loop-j
invariant-loop-j g l = (l.k ≤ l.j) × PassedBy (goal.F-post g l.test) l.span.size l.span.base l.k l.j
