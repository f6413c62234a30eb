use mathlib.Core.Path.{sym, ◌∙◌}
use Rattle.snapshot.specs.Ids.{plus_one}
use Rattle.hir_def.proofs.Climbs.{some_number, none_number}
use Rattle.read_back.proofs.Outward.{outward_root, outward_not}
use Rattle.read_back.proofs.blocks.outward.Goals as goal

pub returns-in-Some : goal.returns-in-Some
unfolding plus_one
returns-in-Some c = outward_not _ _ (some_number _ c.parent.ensures c.in-Some.is)

pub returns-in-None : goal.returns-in-None
returns-in-None c = c.block.ensures ∙ sym (outward_root _ _ (none_number _ c.parent.ensures c.in-None.is))
