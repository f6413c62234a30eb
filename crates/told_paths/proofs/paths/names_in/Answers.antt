use mathlib.Core.Path.{refl}
use native.Mathlib.Omega.{arith}
use Rattle.told_paths.proofs.Unwound.{link_less, counted_start, counted_next, counted_keyword, counted_name}
use Rattle.told_paths.proofs.paths.names_in.Goals as goal

pub loop-k-init : goal.loop-k-init
loop-k-init c = counted_start c.args.area.now c.args.n c.requires.2 c.args.link c.requires.1

pub loop-k-smaller : goal.loop-k-smaller
loop-k-smaller c =
    omega (arith, c.word-k.ensures, link_less c.args.area.now c.args.n c.requires.2 c.loop-k-test.true c.loop-k.invariant.low)

pub loop-k-preserved : goal.loop-k-preserved
loop-k-preserved c =
    counted_next c.args.area.now c.args.n c.requires.2 c.loop-k.invariant c.loop-k-test.true c.word-k.ensures

pub returns-then-k-eq0 : goal.returns-then-k-eq0
returns-then-k-eq0 c =
    record {
      by_index = counted_keyword c.args.area.now c.args.n c.requires.2 c.loop-k.invariant c.if-k-eq0.true;
      upper_bound = omega (arith, c.loop-k.invariant.few);
    }

pub returns : goal.returns
returns c =
    record {
      by_index = counted_name c.args.area.now c.args.n c.requires.2 c.loop-k.invariant c.if-k-eq0.false
          (omega (arith, c.loop-k-test.false)) refl;
      upper_bound = omega (arith, c.loop-k.invariant.few, c.if-k-eq0.false);
    }
