use mathlib.Core.Path.{sym, ap}
use Rattle.find_path_spec.specs.Rules.{prefix_path_kind}
use Rattle.find_path_rules.proofs.RuleLaws.{prefix_other}
use Rattle.find_path_rules.proofs.prefix_path_kind.Goals as goal

pub returns-then-prefix : goal.returns-then-prefix
unfolding prefix_path_kind
returns-then-prefix c = sym (ap prefix_path_kind c.if-prefix.true)

pub returns-then-prefix-2 : goal.returns-then-prefix-2
unfolding prefix_path_kind
returns-then-prefix-2 c = sym (ap prefix_path_kind c.if-prefix-2.true)

pub returns : goal.returns
returns c = prefix_other _ c.if-prefix.false c.if-prefix-2.false
