use Prim.Native.Nat.{◌≤◌, ◌<◌}
use native.Mathlib.Omega.{arith}
use Rattle.reach.proofs.parts.Laws.{column_small, names_small, last_fits, tallied_by}
use Rattle.reach.proofs.parts.tally.tally.Goals as goal

pub offset_bounds-counts-at : goal.offset_bounds-counts-at
offset_bounds-counts-at c =
    record { fits = omega (arith, column_small c.args.r c.requires.0 c.requires.1, c.column-at.ensures) }

pub bounds-counts-at : goal.bounds-counts-at
bounds-counts-at c = omega (
  arith,
  column_small c.args.r c.requires.0 c.requires.1,
  c.column-at.ensures,
)

pub bounds-counts-at-2 : goal.bounds-counts-at-2
bounds-counts-at-2 c = omega (
  arith,
  column_small c.args.r c.requires.0 c.requires.1,
  c.column-at.ensures,
)

pub overflow_add-counts-2 : goal.overflow_add-counts-2
overflow_add-counts-2 c =
    let p : c.column-at.result < 20 = omega (
      arith,
      column_small c.args.r c.requires.0 c.requires.1,
      c.column-at.ensures,
    ) in
    let q : c.names_found-names.result ≤ 16 = omega (arith, names_small c.args.r c.requires.0, c.names_found-names.ensures) in
    record {
      fits = omega (
        arith,
        last_fits c.args.reach.counts c.column-at.result c.names_found-names.result
            _ p c.requires.2 q,
      );
    }

pub returns : goal.returns
returns c =
    tallied_by c.args.reach.counts c.args.r c.column-at.ensures c.names_found-names.ensures
