use mathlib.Core.Path.{refl, ◌∙◌}
use Rattle.accept.specs.Opened.{snap_in}
use Rattle.find_path_spec.specs.Rules.{find_in_prelude, prelude_rule}
use Rattle.find_path_rules.proofs.RuleLaws.{first_hit, first_miss, single_last}
use Rattle.find_path.proofs.named.Goals as goal

pub returns-in-Some : goal.returns-in-Some
returns-in-Some c = first_hit _ c.in-Some.ensures refl

pub returns : goal.returns
unfolding prelude_rule
returns c =
    let n = snap_in c.args.db.now in
    c.prelude_rule.ensures ∙ single_last n c.args.x 0 2 (find_in_prelude n c.args.x c.args.item)
    ∙ first_miss _ c.in_default.ensures refl
