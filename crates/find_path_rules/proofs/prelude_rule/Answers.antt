use mathlib.Core.Path.{ap, ◌∙◌}
use Rattle.find_path_spec.specs.Rules.{single, prelude_rule}
use Rattle.accept.specs.Opened.{snap_in}
use Rattle.find_path_rules.proofs.prelude_rule.Goals as goal

pub returns : goal.returns
unfolding prelude_rule
returns c =
    let n = snap_in c.args.db.now in
    c.single.ensures c.args.x ∙ ap (single n c.args.x 0 2) c.find_in_prelude-e.ensures.0
