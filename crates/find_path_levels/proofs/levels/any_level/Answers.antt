use Prim.Native.Nat.{◌+◌, ◌-◌}
use mathlib.Core.Path.{◌≡◌, subst}
use native.Mathlib.Omega.{arith}
use Rattle.find_path_levels.proofs.Stacks.{chain_first}
use Rattle.find_path_levels.proofs.Each.{any_hit, any_next, any_end}
use Rattle.find_path_levels.proofs.levels.any_level.Goals as goal

pub loop-level-init : goal.loop-level-init
loop-level-init g c =
    let e : c.args.s.depth - 0 ≡ c.args.s.depth = omega arith in rw e (c.requires.chain, λ r x. x)

pub test-requires : goal.test-requires
test-requires g c =
    let f = chain_first _ _ _ _ (omega arith) c.loop-level.invariant.0 in c.requires.takes _ f.header f.within

pub returns-then-test : goal.returns-then-test
returns-then-test g c =
    let w = c.loop-level in
    w.invariant.1 _ (any_hit _ _ _ _ (omega arith) (subst (goal.F-post g c.args.test _) c.if-test.true c.test.ensures))

pub overflow_sub-p : goal.overflow_sub-p
overflow_sub-p g c = omega (arith, (chain_first _ _ _ _ (omega arith) c.loop-level.invariant.0).header)

pub loop-level-preserved : goal.loop-level-preserved
loop-level-preserved g c =
    let w = c.loop-level in
    let e : c.args.s.depth - (w._level + 1) ≡ c.args.s.depth - w._level - 1 = omega arith in (
      rw (c.word-p.ensures, e) (chain_first _ _ _ _ (omega arith) w.invariant.0).rest,
      λ r x. w.invariant.1 r
          (any_next _ _ w.p (c.args.s.depth - w._level) r (omega arith) (subst (goal.F-post g c.args.test _) c.if-test.false c.test.ensures)
          c.word-p.ensures e x),
    )

pub returns : goal.returns
returns g c = c.loop-level.invariant.1 _ (any_end _ _ _ _ (omega (arith, c.loop-level-test.false)))
