use mathlib.Core.Path.{◌∙◌, sym}
use borrow.Author.Tests.{eqb-true}
use Rattle.imports.proofs.order.Orders.{entry_same, entry_text, entry_other}
use Rattle.imports.proofs.order.entries.entry_before.Goals as goal

pub returns-then-eq : goal.returns-then-eq
returns-then-eq c =
    entry_same _ _ _ c.scope_name-x.ensures c.scope_name-y.ensures
    c.scope_ns.ensures c.scope_ns-2.ensures (eqb-true _ _ (sym c.eq.ensures ∙ c.if-eq.true))

pub returns-then-text_before : goal.returns-then-text_before
returns-then-text_before c =
    entry_text _ _ _ c.scope_name-x.ensures c.scope_name-y.ensures
    c.scope_ns.ensures c.scope_ns-2.ensures
    (sym c.text_before.ensures ∙ c.if-text_before.true)

pub returns : goal.returns
returns c =
    entry_other _ _ _ c.scope_name-x.ensures c.scope_name-y.ensures
    c.scope_ns.ensures c.scope_ns-2.ensures
    (sym c.text_before.ensures ∙ c.if-text_before.false) c.text_before-after.ensures
