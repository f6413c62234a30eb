use mathlib.Core.Bool.{not}
use mathlib.Core.Path.{ap}
use native.Mathlib.Omega.{arith}
use Rattle.join.proofs.Laws.{wholes, count_space, sums, join_not, write_space, join_done}
use Rattle.join.proofs.join_accepted.Goals as goal

pub put_kinds-count-requires : goal.put_kinds-count-requires
put_kinds-count-requires c = let f = c.number-n.ensures in
    record { whole = wholes c.requires f; space = count_space c.requires f _ }

pub overflow_add-l : goal.overflow_add-l
overflow_add-l c = omega (arith, (sums c.requires c.number-n.ensures).names)

pub overflow_add-l-2 : goal.overflow_add-l-2
overflow_add-l-2 c = omega (arith, (sums c.requires c.number-n.ensures).crates)

pub overflow_add-l-3 : goal.overflow_add-l-3
overflow_add-l-3 c = omega (arith, (sums c.requires c.number-n.ensures).modules)

pub overflow_add-l-4 : goal.overflow_add-l-4
overflow_add-l-4 c = omega (arith, (sums c.requires c.number-n.ensures).definitions)

pub returns-then-not-fits : goal.returns-then-not-fits
returns-then-not-fits c =
    let f = c.number-n.ensures in
    join_not c.requires f c.put_kinds-count.ensures
    c.fits.ensures (ap not c.if-not-fits.true)

pub put_kinds-requires : goal.put_kinds-requires
put_kinds-requires c = let f = c.number-n.ensures in record {
  whole = wholes c.requires f;
  space = write_space c.requires f
      c.put_kinds-count.ensures
      c.fits.ensures (ap not c.if-not-fits.false);
}

pub returns : goal.returns
returns c =
    let f = c.number-n.ensures in
    join_done c.requires f
    c.put_kinds-count.ensures c.fits.ensures
    (ap not c.if-not-fits.false) c.put_kinds.ensures
