use mathlib.Core.Path.{refl}
use native.Mathlib.Omega.{arith}
use Rattle.hir_def.proofs.Fits.{scope_fits}
use Rattle.nameable.specs.Paths.{entries_in}
use Rattle.any_path.proofs.Taken.{stays_snap, stays_reads}
use Rattle.any_path.proofs.Plains.{trying_start, trying_next, trying_done, lead_here, name_here}
use Rattle.any_path.proofs.firsts.offer_scope.Goals as goal

pub loop-k-init : goal.loop-k-init
loop-k-init c = trying_start _ _ _ _ _ _ _ _ _ c.requires.2

pub offer_lead-count-requires : goal.offer_lead-count-requires
offer_lead-count-requires c =
    let g = c.loop-k.invariant.grown in (
      stays_reads _ _ c.loop-k.area _ c.requires.0 g.stays,
      c.requires.1,
      scope_fits _ _ _ c.requires.0 c.loop-k-test.true c.scope_base-base.ensures refl,
      g.run,
    )

pub loop-k-preserved : goal.loop-k-preserved
loop-k-preserved c =
    let W = c.args.records.now.words.now in
    let L = c.args.records.now.layout in
    let same = stays_snap W _ c.loop-k.area L c.requires.0 c.loop-k.invariant.grown.stays in
    trying_next _ _ _ _ _ _ _ _ _ c.loop-k.invariant c.loop-k-test.true same
    (lead_here W L c.loop-k.k c.scope_base-base.ensures refl _ _ c.args.from.0 c.args.m.0 same)
    (name_here W L c.loop-k.k c.scope_base-base.ensures refl) c.offer_lead-count.ensures

pub returns : goal.returns
unfolding entries_in
returns c = trying_done _ _ _ _ _ _ _ _ _ c.loop-k.invariant (omega (arith, c.loop-k-test.false))
