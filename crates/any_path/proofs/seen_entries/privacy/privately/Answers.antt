use mathlib.Core.Path.{ap, ◌∙◌}
use Rattle.module_tree.specs.rules.Modules.{containing}
use Rattle.module_tree.specs.rules.Visibility.{met}
use Rattle.module_tree.specs.rules.Privately.{privately}
use Rattle.accept.specs.Opened.{snap_in}
use Rattle.any_path.proofs.seen_entries.privacy.privately.Goals as goal

pub returns : goal.returns
unfolding privately
returns c =
    c.meets.ensures ∙ ap (met (containing (snap_in c.args.view.now.db)) c.args.view.now.from.0)
    c.module_around-t.ensures.0
