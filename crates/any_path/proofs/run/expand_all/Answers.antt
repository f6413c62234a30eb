use native.Mathlib.Omega.{arith}
use Rattle.any_path.proofs.Taken.{stays_reads}
use Rattle.any_path.proofs.Runs.{old_meant, spreading_start, spreading_next, spreading_done}
use Rattle.any_path.proofs.run.expand_all.Goals as goal

pub loop-i-init : goal.loop-i-init
loop-i-init c =
    spreading_start _ _ _ c.requires.0 c.args.from.0 c.args.n c.requires.2

pub expand-count-requires : goal.expand-count-requires
expand-count-requires c =
    let g = c.loop-i.invariant.grown in (
      stays_reads _ _ c.loop-i.area _ c.requires.0 g.stays,
      c.requires.1,
      g.run,
      omega (arith, c.loop-i-test.true, g.more),
      old_meant _ _ _ c.requires.0 c.args.from.0 c.args.n c.requires.3
          c.loop-i-test.true g,
    )

pub loop-i-preserved : goal.loop-i-preserved
loop-i-preserved c =
    spreading_next _ _ _ c.requires.0 c.args.from.0 c.args.n c.loop-i.invariant
    c.loop-i-test.true c.expand-count.ensures

pub returns : goal.returns
returns c =
    spreading_done _ _ _ c.requires.0 c.args.from.0 c.args.n c.loop-i.invariant
    (omega (arith, c.loop-i-test.false))
