use mathlib.Core.Path.{refl, subst}
use native.Mathlib.Omega.{arith}
use Rattle.hir_def.specs.Tests.{NextBy}
use Rattle.hir_def.proofs.finds.next_where.Goals as goal

pub returns-then-test : goal.returns-then-test
unfolding NextBy
returns-then-test g c =
    let v = c.loop-j.invariant in
    record {
      head = refl;
      from = v.0;
      below = c.loop-j-test.true;
      passes = subst (goal.F-post g c.args.test _) c.if-test.true c.test.ensures;
      before = v.1;
    }

pub returns : goal.returns
unfolding NextBy
returns g c = λ i a b. c.loop-j.invariant.1 i a (let e = c.loop-j-test.false in omega (arith, b, e))
