use Prim.Native.Nat.{◌+◌, ◌*◌}
use mathlib.Core.Path.{◌≡◌, refl, sym, subst}
use mathlib.Core.Bool.{false}
use native.Mathlib.Omega.{arith}
use lib.Dec.{ltb}
use borrow.Author.Tests.{ltb-true, ltb-false}
use Rattle.accept.proofs.Accepted.{by_test}
use Rattle.hir_def.specs.Tests.{Only, NextBy}
use Rattle.hir_def.proofs.finds.next_within.Goals as goal

pub loop-i-init : goal.loop-i-init
unfolding Only
loop-i-init g c = (
  omega (arith, c.max-i.ensures),
  λ owner o inside i a b n e. let w = inside i n e in absurd (omega (arith, c.max-i.ensures, a, b, w.0)),
)

pub returns-then-test : goal.returns-then-test
unfolding NextBy Only
returns-then-test g c =
    λ owner o inside.
    record {
      head = refl;
      from = c.loop-i.invariant.0;
      below = omega (arith, c.loop-i-test.true, c.min-i-end.ensures);
      passes = subst (goal.F-post g c.args.test _) c.if-test.true c.test.ensures;
      before = λ i a b. c.loop-i.invariant.1 owner o inside i a b (omega (arith, b, c.loop-i-test.true, c.min-i-end.ensures));
    }

pub loop-i-preserved : goal.loop-i-preserved
unfolding Only
loop-i-preserved g c = (
  omega (arith, c.loop-i.invariant.0),
  λ owner o inside i a b n e.
      by_test (ltb i c.loop-i.i) (λ t. c.loop-i.invariant.1 owner o inside i a (ltb-true _ _ t) n e)
      (λ t.
      let q : i ≡ c.loop-i.i = omega (arith, b, ltb-false i c.loop-i.i t) in
      subst (λ z. goal.F-post g c.args.test (c.args.span.base + c.args.span.size * z) false) (sym q)
      (subst (goal.F-post g c.args.test _) c.if-test.false c.test.ensures)),
)

pub returns : goal.returns
unfolding NextBy Only
returns g c =
    λ owner o inside i a n.
    by_test (ltb i c.loop-i.i) (λ t. c.loop-i.invariant.1 owner o inside i a (ltb-true _ _ t) n)
    (λ t e. let w = inside i n e in absurd (omega (arith, w.1, n, ltb-false i c.loop-i.i t, c.loop-i-test.false, c.min-i-end.ensures)))
