use native.Mathlib.Omega.{arith}
use Rattle.imports.proofs.order.Merges.{runs_ready, sorts_few, sorts_halves}
use Rattle.imports.proofs.order.sort.+sort.Goals as goal

pub returns-then-n-lt2 : goal.returns-then-n-lt2
returns-then-n-lt2 t c = sorts_few _ _ _ _ _ c.if-n-lt2.true

pub sort-requires-2 : goal.sort-requires-2
sort-requires-2 t c = (
  omega arith,
  (
    runs_ready c.requires.0
        c.sort.ensures.frame (omega arith),
    omega arith,
    omega arith,
  ),
)

pub merge-requires : goal.merge-requires
merge-requires t c = (
  runs_ready (runs_ready c.requires.0 c.sort.ensures.frame (omega arith))
      c.sort-2.ensures.frame (omega arith),
  omega arith,
  omega arith,
)

pub returns : goal.returns
returns t c =
    sorts_halves _ c.requires.0 (omega arith) (omega arith) (omega arith) c.sort.ensures c.sort-2.ensures c.merge.ensures
