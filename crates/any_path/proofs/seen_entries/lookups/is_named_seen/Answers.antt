use mathlib.Core.Path.{sym, ◌∙◌}
use Rattle.any_path.proofs.seen_entries.Laws.{and_so, and_no}
use Rattle.any_path.proofs.seen_entries.lookups.is_named_seen.Goals as goal

pub returns-then-is_named : goal.returns-then-is_named
returns-then-is_named c = c.seen.ensures ∙ and_so _ _ (sym c.is_named.ensures ∙ c.if-is_named.true)

pub returns : goal.returns
returns c = and_no _ _ (sym c.is_named.ensures ∙ c.if-is_named.false)
