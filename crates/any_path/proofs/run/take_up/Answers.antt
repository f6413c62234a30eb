use native.Mathlib.Omega.{arith}
use Rattle.any_path.proofs.Written.{run_few}
use Rattle.any_path.proofs.Taken.{stays_reads}
use Rattle.any_path.proofs.Runs.{row_meant, queueing_start, queueing_next, queueing_done}
use Rattle.any_path.proofs.run.take_up.Goals as goal

pub loop-i-init : goal.loop-i-init
loop-i-init c =
    queueing_start _ _ _ c.requires.0 c.args.from.0 c.args.n c.args.start
    c.requires.2 c.requires.3

pub expand-count-requires : goal.expand-count-requires
expand-count-requires c =
    let g = c.loop-i.invariant.grown in (
      stays_reads _ _ c.loop-i.area _ c.requires.0 g.stays,
      c.requires.1,
      g.run,
      c.loop-i-test.true,
      row_meant _ _ _ c.requires.0 c.args.from.0 c.args.n c.loop-i.invariant.meant
          c.loop-i-test.true g,
    )

pub overflow_add-i : goal.overflow_add-i
overflow_add-i c =
    let few = run_few _ _ _ c.loop-i.invariant.grown.run in
    record {
      fits =
          omega (arith, few, c.loop-i.invariant.grown.more, c.requires.0.tables.limited.modules, c.loop-i-test.true);
    }

pub loop-i-smaller : goal.loop-i-smaller
loop-i-smaller c =
    let few = run_few _ _ _ c.loop-i.invariant.grown.run in
    omega (arith, few, c.loop-i-test.true)

pub loop-i-preserved : goal.loop-i-preserved
loop-i-preserved c =
    queueing_next _ _ _ c.requires.0 c.args.from.0 c.args.n c.args.start
    c.loop-i.invariant c.loop-i-test.true c.expand-count.ensures

pub returns : goal.returns
returns c =
    queueing_done _ _ _ c.requires.0 c.args.from.0 c.args.n c.args.start
    c.loop-i.invariant (omega (arith, c.loop-i-test.false))
