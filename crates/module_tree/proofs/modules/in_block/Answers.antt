use mathlib.Core.Path.{◌∙◌}
use Rattle.module_tree.proofs.Climbs.{some_exact}
use Rattle.module_tree.proofs.modules.in_block.Goals as goal

pub returns : goal.returns
returns c = c.is_some.ensures ∙ some_exact _ c.block.ensures
