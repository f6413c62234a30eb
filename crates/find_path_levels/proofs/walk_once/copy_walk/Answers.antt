use mathlib.Core.Path.{◌≡◌, refl, subst, ◌∙◌}
use native.Mathlib.Omega.{arith}
use lib.ListN.{length-set}
use Rattle.find_path_levels.specs.walk_once.Post.{Copied}
use Rattle.find_path_levels.proofs.walk_once.Walking.{copied_start, copied_next}
use Rattle.find_path_levels.proofs.walk_once.copy_walk.Goals as goal

pub loop-i-init : goal.loop-i-init
loop-i-init c = (copied_start _ _, refl, omega arith)

pub loop-i-preserved : goal.loop-i-preserved
loop-i-preserved c =
    let h = c.loop-i-test.true in (
      copied_next c.args.area.now c.args.to c.loop-i.i c.loop-i.area c.loop-i.invariant.0 c.requires.0
          (omega (arith, c.loop-i.invariant.1, c.requires.1)) (omega (arith, h, c.requires.2)) refl,
      length-set c.loop-i.area _ _ ∙ c.loop-i.invariant.1,
      omega (arith, h),
    )

pub returns : goal.returns
returns c =
    let e : c.loop-i.i ≡ c.args.n = omega (arith, c.loop-i.invariant.2, c.loop-i-test.false) in
    subst (λ j. Copied c.args.area.now c.args.to j c.loop-i.area) e c.loop-i.invariant.0
