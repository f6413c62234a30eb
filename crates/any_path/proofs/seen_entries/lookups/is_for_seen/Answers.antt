use mathlib.Core.Path.{sym, ◌∙◌}
use Rattle.any_path.proofs.seen_entries.Laws.{and_so, and_no}
use Rattle.any_path.proofs.seen_entries.lookups.is_for_seen.Goals as goal

pub returns-then-is_for : goal.returns-then-is_for
returns-then-is_for c =
    c.seen.ensures ∙ and_so _ _ (sym (c.is_for.ensures c.args.view.now.db.area.now) ∙ c.if-is_for.true)

pub returns : goal.returns
returns c =
    and_no _ _ (sym (c.is_for.ensures c.args.view.now.db.area.now) ∙ c.if-is_for.false)
