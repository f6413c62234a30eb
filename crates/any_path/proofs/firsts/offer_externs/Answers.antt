use mathlib.Core.Path.{refl}
use native.Mathlib.Omega.{arith}
use Rattle.nameable.specs.Paths.{externs_in}
use Rattle.any_path.proofs.Taken.{stays_snap, stays_reads}
use Rattle.any_path.proofs.Externs.{extern_known}
use Rattle.any_path.proofs.Plains.{trying_start, trying_next, trying_done, owned_here, extern_here}
use Rattle.any_path.proofs.firsts.offer_externs.Goals as goal

pub loop-k-init : goal.loop-k-init
loop-k-init c = trying_start _ _ _ _ _ _ _ _ _ c.requires.2

pub offer_owned-count-requires : goal.offer_owned-count-requires
offer_owned-count-requires c =
    let g = c.loop-k.invariant.grown in (
      stays_reads _ _ c.loop-k.area _ c.requires.0 g.stays,
      c.requires.1,
      extern_known _ _ _ c.requires.0 c.args.from.0 c.args.n c.loop-k-test.true c.extern_base-base.ensures refl,
      g.run,
    )

pub loop-k-preserved : goal.loop-k-preserved
loop-k-preserved c =
    let W = c.args.records.now.words.now in
    let L = c.args.records.now.layout in
    trying_next _ _ _ _ _ _ _ _ _ c.loop-k.invariant c.loop-k-test.true
    (stays_snap W _ c.loop-k.area L c.requires.0 c.loop-k.invariant.grown.stays)
    (owned_here W L c.loop-k.k c.extern_base-base.ensures refl c.krate-c.ensures)
    (extern_here W L c.loop-k.k c.extern_base-base.ensures refl) c.offer_owned-count.ensures

pub returns : goal.returns
unfolding externs_in
returns c = trying_done _ _ _ _ _ _ _ _ _ c.loop-k.invariant (omega (arith, c.loop-k-test.false))
