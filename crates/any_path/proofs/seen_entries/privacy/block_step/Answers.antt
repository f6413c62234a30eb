use mathlib.Core.Path.{sym, ◌∙◌}
use Rattle.snapshot.specs.Ids.{plus_one}
use Rattle.module_tree.proofs.Climbs.{some_number, none_number}
use Rattle.module_tree.proofs.Privately.{step_root, step_inner}
use Rattle.accept.specs.Opened.{snap_in}
use Rattle.any_path.proofs.seen_entries.privacy.block_step.Goals as goal

pub returns-in-Some : goal.returns-in-Some
unfolding plus_one
returns-in-Some c =
    sym (step_inner (snap_in c.args.db.now) c.args.m.0 _
    (some_number _ c.parent.ensures c.in-Some.is))

pub returns-in-None : goal.returns-in-None
returns-in-None c =
    c.block.ensures ∙ sym (step_root (snap_in c.args.db.now) c.args.m.0
    (none_number _ c.parent.ensures c.in-None.is))
