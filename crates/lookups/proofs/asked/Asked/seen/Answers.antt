use Rattle.module_tree.proofs.rules.Visible.{number_within}
use Rattle.lookups.proofs.asked.Asked.seen.Goals as goal

pub is_visible_from-seen-requires : goal.is_visible_from-seen-requires
is_visible_from-seen-requires c = (c.requires.0, rw c.of-visibility.ensures (number_within _ _ c.requires.1))
