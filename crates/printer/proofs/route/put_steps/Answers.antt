use mathlib.Core.Path.{refl, ap, ◌∙◌}
use native.Mathlib.Omega.{arith}
use lib.Seq.{take_all}
use Rattle.find_path_spec.specs.Line.{steps_text}
use Rattle.printing.proofs.Laws.{put_as, put_two, put_none}
use Rattle.printer.proofs.route.Laws.{steps_none, steps_next}
use Rattle.printer.proofs.route.put_steps.Goals as goal

pub loop-step-init : goal.loop-step-init
loop-step-init c = (omega arith, refl, put_as (steps_none c.args.route.now) (put_none _ _), omega arith)

pub put_step-to-requires : goal.put_step-to-requires
put_step-to-requires c = let l = c.loop-step in omega (arith, c.requires.0, c.requires.1, l.invariant.1, l.invariant.3)

pub loop-step-preserved : goal.loop-step-preserved
loop-step-preserved c =
    let l = c.loop-step in (
      omega arith,
      c.put_step-to.auto.out ∙ l.invariant.1,
      put_as (steps_next c.args.route.now l.step-index (omega arith)) (put_two l.invariant.2 c.put_step-to.ensures.put),
      omega (arith, l.invariant.3, c.put_step-to.ensures.upper_bound),
    )

pub returns : goal.returns
returns c =
    let l = c.loop-step in
    record {
      put = put_as (ap steps_text (take_all l.step-index c.args.route.now (omega arith))) l.invariant.2;
      upper_bound = omega (arith, l.invariant.0, l.invariant.3, c.requires.1);
    }
