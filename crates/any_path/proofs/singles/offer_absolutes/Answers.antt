use mathlib.Core.Path.{refl}
use native.Mathlib.Omega.{arith}
use Rattle.any_path.proofs.Taken.{stays_reads}
use Rattle.any_path.proofs.Externs.{extern_known, naming_start, named_early, naming_next, naming_done}
use Rattle.any_path.proofs.singles.offer_absolutes.Goals as goal

pub returns-then-edition_of-eq2015 : goal.returns-then-edition_of-eq2015
returns-then-edition_of-eq2015 c =
    named_early _ _ _ c.requires.0 c.args.from.0 c.args.n c.krate-c.ensures
    (c.edition_of.ensures c.args.area.now) c.requires.2 c.if-edition_of-eq2015.true

pub loop-k-init : goal.loop-k-init
loop-k-init c =
    λ from e. naming_start _ _ _ c.requires.0 from c.args.n c.requires.2

pub offer_extern-count-requires : goal.offer_extern-count-requires
offer_extern-count-requires c =
    let g = (c.loop-k.invariant c.args.from.0 c.krate-c.ensures).grown in (
      stays_reads _ _ c.loop-k.area _ c.requires.0 g.stays,
      extern_known _ _ _ c.requires.0 c.args.from.0 c.args.n
          c.loop-k-test.true c.extern_base-base.ensures refl,
      g.run,
    )

pub loop-k-preserved : goal.loop-k-preserved
loop-k-preserved c =
    λ from f.
    naming_next _ _ _ c.requires.0 from c.args.n f
    (c.edition_of.ensures c.args.area.now) c.if-edition_of-eq2015.false
    (c.loop-k.invariant from f) c.loop-k-test.true c.extern_base-base.ensures refl c.offer_extern-count.ensures

pub returns : goal.returns
returns c =
    naming_done _ _ _ c.requires.0 c.args.from.0 c.args.n c.krate-c.ensures
    (c.edition_of.ensures c.args.area.now) c.if-edition_of-eq2015.false
    (c.loop-k.invariant c.args.from.0 c.krate-c.ensures) (omega (arith, c.loop-k-test.false))
