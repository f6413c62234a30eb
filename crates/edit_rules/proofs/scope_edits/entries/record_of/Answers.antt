use mathlib.Core.Path.{refl}
use Rattle.edit_rules.specs.Entries.{scope_words}
use Rattle.edit_rules.proofs.scope_edits.entries.record_of.Goals as goal

pub returns : goal.returns
unfolding scope_words
returns c = refl
