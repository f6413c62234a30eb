use mathlib.Core.Bool.{◌||◌}
use mathlib.Core.Path.{sym, ap, ◌∙◌}
use borrow.Author.Tests.{eqb-false, eqb-true}
use Rattle.find_path_rules.proofs.RuleLaws.{kw_none, kw_self, kw_parent}
use Rattle.accept.specs.Opened.{snap_in}
use Rattle.find_path_rules.proofs.is_kw_kind_relative_to_from.Goals as goal

pub returns-then-ne-block : goal.returns-then-ne-block
returns-then-ne-block c =
    let n = snap_in c.args.db.now in
    kw_none n c.args.x c.args.m.0 c.krate.ensures
    c.krate-2.ensures c.in_block.ensures
    c.in_block-2.ensures (ap (λ z. z || (c.in_block.result || c.in_block-2.result)) (sym c.ne.ensures) ∙ c.if-ne-block.true)

pub returns-then-eq : goal.returns-then-eq
returns-then-eq c =
    let n = snap_in c.args.db.now in
    kw_self n c.args.x c.args.m.0 c.krate.ensures c.krate-2.ensures c.in_block.ensures
    c.in_block-2.ensures (ap (λ z. z || (c.in_block.result || c.in_block-2.result)) (sym c.ne.ensures) ∙ c.if-ne-block.false)
    (eqb-true _ _ (sym c.eq.ensures ∙ c.if-eq.true))

pub returns : goal.returns
returns c =
    let n = snap_in c.args.db.now in
    c.parent_kind.ensures ∙ kw_parent n c.args.x c.args.m.0
    c.krate.ensures
    c.krate-2.ensures
    c.in_block.ensures
    c.in_block-2.ensures (ap (λ z. z || (c.in_block.result || c.in_block-2.result)) (sym c.ne.ensures) ∙ c.if-ne-block.false)
    (eqb-false _ _ (sym c.eq.ensures ∙ c.if-eq.false))
