use mathlib.Core.Path.{sym, ap, ◌∙◌}
use Rattle.hir_def.specs.Items.{module_item}
use Rattle.find_path_choice.specs.Given.{given}
use Rattle.find_path_spec.specs.Rules.{find_in_prelude, prelude_rule, module_rules}
use Rattle.find_path_rules.proofs.RuleLaws.{first_hit, first_miss, single_last}
use Rattle.accept.specs.Opened.{snap_in}
use Rattle.find_path_rules.proofs.module_rules.Goals as goal

pub returns-in-Some : goal.returns-in-Some
unfolding module_rules
returns-in-Some c = sym (ap given c.in-Some.is) ∙ first_hit _ c.root_rule.ensures (ap (λ o. (given o).found) c.in-Some.is)

pub returns-in-Some-scope_rule : goal.returns-in-Some-scope_rule
unfolding module_rules
returns-in-Some-scope_rule c =
    sym (ap given c.in-Some-scope_rule.is) ∙ first_hit _ c.scope_rule.ensures (ap (λ o. (given o).found) c.in-Some-scope_rule.is)
    ∙ first_miss _ c.root_rule.ensures (ap (λ o. (given o).found) c.in_default.is)

pub returns-in-Some-keyword_rule : goal.returns-in-Some-keyword_rule
unfolding module_rules
returns-in-Some-keyword_rule c =
    sym (ap given c.in-Some-keyword_rule.is) ∙ first_hit _ c.keyword_rule.ensures (ap (λ o. (given o).found) c.in-Some-keyword_rule.is)
    ∙ first_miss _ c.scope_rule.ensures (ap (λ o. (given o).found) c.in_default-scope_rule.is)
    ∙ first_miss _ c.root_rule.ensures (ap (λ o. (given o).found) c.in_default.is)

pub returns : goal.returns
unfolding prelude_rule module_rules
returns c =
    let n = snap_in c.args.db.now in
    c.prelude_rule.ensures ∙ single_last n c.args.x 0 2 (find_in_prelude n c.args.x (module_item c.args.m.0))
    ∙ first_miss _ c.keyword_rule.ensures (ap (λ o. (given o).found) c.in_default-keyword_rule.is)
    ∙ first_miss _ c.scope_rule.ensures (ap (λ o. (given o).found) c.in_default-scope_rule.is)
    ∙ first_miss _ c.root_rule.ensures (ap (λ o. (given o).found) c.in_default.is)
