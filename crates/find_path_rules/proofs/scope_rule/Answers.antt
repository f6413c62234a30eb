use mathlib.Core.Path.{sym, ◌∙◌}
use Rattle.find_path_rules.proofs.RuleLaws.{scope_out, scope_in}
use Rattle.accept.specs.Opened.{snap_in}
use Rattle.find_path_rules.proofs.scope_rule.Goals as goal

pub returns-then-not-may_be_in_scope : goal.returns-then-not-may_be_in_scope
returns-then-not-may_be_in_scope c =
    let n = snap_in c.args.db.now in
    scope_out n c.args.x c.args.item (sym (c.may_be_in_scope.ensures n)
    ∙ c.if-not-may_be_in_scope.true)

pub returns : goal.returns
returns c =
    let n = snap_in c.args.db.now in
    c.single.ensures c.args.x
    ∙ scope_in n c.args.x c.args.item c.prefix_path_kind.ensures c.find_in_scope-e.ensures.0
    (sym (c.may_be_in_scope.ensures n) ∙ c.if-not-may_be_in_scope.false)
