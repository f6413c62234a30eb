use Prim.Native.Nat.{◌+◌, ◌-◌}
use mathlib.Core.Path.{◌≡◌, sym, ap, ◌∙◌}
use native.Mathlib.Omega.{arith}
use Rattle.check_rules.specs.Verdict.{arguments_from}
use Rattle.accept.proofs.Laws.{arguments_short, arguments_other, arguments_go, arguments_end}
use Rattle.accept.proofs.arguments.arguments_from.Goals as goal

pub loop-i-init : goal.loop-i-init
loop-i-init c =
    let e : c.args.n ≡ c.args.at + c.args.n - c.args.at = omega arith in
    (omega arith, ap (arguments_from c.args.words.now c.args.at) e)

pub returns-then-words-i : goal.returns-then-words-i
returns-then-words-i c = arguments_short _ _ _ _ c.loop-i.invariant.1 (omega arith) c.if-words-i.true

pub returns-then-kind-ne0 : goal.returns-then-kind-ne0
returns-then-kind-ne0 c = arguments_other _ _ _ _ c.loop-i.invariant.1 (omega arith) c.if-words-i.false
    (λ e. c.if-kind-ne0.true (c.kind.ensures ∙ e))

pub loop-i-preserved : goal.loop-i-preserved
loop-i-preserved c =
    let l = c.loop-i in
    let e : c.args.at + c.args.n - l.i - 1 ≡ c.args.at + c.args.n - (l.i + 1) = omega arith in (
      omega arith,
      arguments_go _ _ _ _ l.invariant.1 (omega arith) c.if-words-i.false (sym c.kind.ensures ∙ c.if-kind-ne0.false)
          ∙ ap (arguments_from c.args.words.now (l.i + 1)) e,
    )

pub returns : goal.returns
returns c = arguments_end _ _ _ _ c.loop-i.invariant.1 (omega arith)
