use mathlib.Core.Path.{◌≡◌, ap, ◌∙◌}
use native.Mathlib.Omega.{arith}
use lib.Dec.{ltb}
use Rattle.imports.proofs.order.Orders.{text_longer, text_ended, text_less, text_greater, text_equal}
use Rattle.imports.proofs.order.texts.bytes_before.Goals as goal

pub returns-then-m-i : goal.returns-then-m-i
returns-then-m-i c =
    let w = c.loop-i in
    text_longer c.args.a.now c.args.b.now c.args.n c.args.m w.i c.requires.0 c.requires.1 w.invariant.1
    c.loop-i-test.true c.if-m-i.true

pub returns-then-x-y : goal.returns-then-x-y
returns-then-x-y c =
    let w = c.loop-i in
    text_less c.args.a.now c.args.b.now c.args.n c.args.m w.i c.requires.0 c.requires.1 w.invariant.1 _ _
    c.loop-i-test.true c.if-m-i.false c.text_byte-x.ensures c.text_byte-y.ensures c.if-x-y.true

pub returns-then-y-x : goal.returns-then-y-x
returns-then-y-x c =
    let w = c.loop-i in
    text_greater c.args.a.now c.args.b.now c.args.n c.args.m w.i c.requires.0 c.requires.1 w.invariant.1 _ _
    c.loop-i-test.true c.if-m-i.false c.text_byte-x.ensures c.text_byte-y.ensures
    c.if-y-x.true

pub loop-i-preserved : goal.loop-i-preserved
loop-i-preserved c =
    let w = c.loop-i in (
      omega (arith, c.loop-i-test.true),
      text_equal c.args.a.now c.args.b.now c.args.n c.args.m w.i
          c.requires.0 c.requires.1 w.invariant.1 _ _ c.loop-i-test.true c.if-m-i.false c.text_byte-x.ensures
          c.text_byte-y.ensures c.if-x-y.false c.if-y-x.false,
    )

pub returns : goal.returns
returns c =
    let w = c.loop-i in
    let e : c.args.n ≡ w.i = omega arith in
    ap (λ k. ltb k c.args.m) e
    ∙ text_ended c.args.a.now c.args.b.now c.args.n c.args.m w.i c.requires.0 c.requires.1 w.invariant.1 c.loop-i-test.false
