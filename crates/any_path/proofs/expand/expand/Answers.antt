use mathlib.Core.Path.{refl}
use native.Mathlib.Omega.{arith}
use Rattle.hir_def.proofs.Fits.{scope_fits}
use Rattle.any_path.proofs.Taken.{stays_reads, expanding_start, expanding_next, expanding_done}
use Rattle.any_path.proofs.expand.expand.Goals as goal

pub loop-k-init : goal.loop-k-init
loop-k-init c =
    expanding_start _ _ _ c.requires.0 c.args.from.0 c.args.i c.args.n c.requires.2

pub offer_entry-count-requires : goal.offer_entry-count-requires
offer_entry-count-requires c =
    let g = c.loop-k.invariant.grown in (
      stays_reads _ _ c.loop-k.area _ c.requires.0 g.stays,
      c.requires.1,
      scope_fits _ _ _ c.requires.0 c.loop-k-test.true c.scope_base-base.ensures refl,
      g.run,
      omega (arith, c.requires.3, g.more),
    )

pub loop-k-preserved : goal.loop-k-preserved
loop-k-preserved c =
    expanding_next _ _ _ c.requires.0 c.args.from.0 c.args.i c.args.n
    c.requires.3 c.requires.4 c.loop-k.invariant c.loop-k-test.true c.scope_base-base.ensures refl c.offer_entry-count.ensures

pub returns : goal.returns
returns c =
    expanding_done _ _ _ c.requires.0 c.args.from.0 c.args.i c.args.n
    c.loop-k.invariant (omega (arith, c.loop-k-test.false))
