use Rattle.std.proofs.Common.{rules}
use Rattle.module_tree.specs.rules.Modules.{containing}
use Rattle.module_tree.proofs.Reading.{or_another}
use Rattle.module_tree.proofs.modules.containing_module.Goals as goal

pub returns : goal.returns
unfolding containing
returns c = or_another _ _ _ c.parent.ensures c.or_else.ensures (λ q. search rules)
