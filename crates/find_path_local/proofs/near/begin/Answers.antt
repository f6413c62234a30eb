use Prim.Native.Nat.{◌+◌}
use mathlib.Core.Path.{◌≡◌, refl, subst, ◌∙◌}
use native.Mathlib.Omega.{arith}
use lib.ListN.{length-set}
use Rattle.find_path_local.specs.near.Post.{Begun}
use Rattle.find_path_local.proofs.near.Turning.{begun_start, begun_next}
use Rattle.find_path_local.proofs.near.begin.Goals as goal

pub loop-m-init : goal.loop-m-init
loop-m-init c = (begun_start c.args.s.top c.args.area.now, refl, omega arith)

pub bounds-area-at : goal.bounds-area-at
bounds-area-at c = omega (arith, c.loop-m.invariant.1, c.loop-m-test.true, c.requires.0, c.requires.2, c.requires.3)

pub loop-m-preserved : goal.loop-m-preserved
loop-m-preserved c =
    let v = c.loop-m.invariant in (
      begun_next c.args.s.top c.loop-m.m c.args.area.now c.loop-m.area v.0 c.requires.1 c.requires.2 (v.1 ∙ c.requires.3)
          (omega (arith, c.loop-m-test.true, c.requires.0)) c.first_number-d.ensures.0 c.first_number-d.ensures.2,
      length-set c.loop-m.area (c.args.s.top + c.loop-m.m) c.first_number-d.result ∙ v.1,
      omega (arith, c.loop-m-test.true),
    )

pub returns : goal.returns
returns c =
    let v = c.loop-m.invariant in
    let e : c.loop-m.m ≡ c.args.count = omega (arith, v.2, c.loop-m-test.false) in
    subst (λ n. Begun c.args.s.top n c.args.area.now c.loop-m.area) e v.0
