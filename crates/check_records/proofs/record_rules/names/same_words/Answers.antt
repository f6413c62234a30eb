use mathlib.Core.Path.{sym, ◌∙◌}
use native.Mathlib.Omega.{arith}
use native.Mathlib.Nat.{sub-zero}
use Rattle.snapshot.proofs.Laws.{same_stop, same_go, same_end, after_head}
use Rattle.check_records.proofs.record_rules.names.same_words.Goals as goal

pub loop-i-init : goal.loop-i-init
loop-i-init c = (omega arith, rw sub-zero)

pub returns-then-x-y : goal.returns-then-x-y
returns-then-x-y c =
    let l = c.loop-i in
    let x = c.field-x.ensures ∙ after_head c.args.left.now c.args.a l.i in
    let y = c.field-y.ensures ∙ after_head c.args.right.now c.args.b l.i in
    same_stop _ _ _ _ _ l.invariant.1 (omega arith) (λ e. c.if-x-y.true (x ∙ e ∙ sym y))

pub loop-i-preserved : goal.loop-i-preserved
loop-i-preserved c =
    let l = c.loop-i in
    let x = c.field-x.ensures ∙ after_head c.args.left.now c.args.a l.i in
    let y = c.field-y.ensures ∙ after_head c.args.right.now c.args.b l.i in
    (omega arith, same_go _ _ _ _ _ l.invariant.1 (omega arith) (sym x ∙ c.if-x-y.false ∙ y))

pub returns : goal.returns
returns c = same_end _ _ _ _ _ c.loop-i.invariant.1 (omega arith)
