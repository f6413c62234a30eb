use mathlib.Core.Path.{sym, ap, ◌∙◌}
use mathlib.Core.Bool.{not}
use Rattle.keywords.specs.Keywords.{is_raw}
use Rattle.keywords.proofs.is_raw.Goals as goal

pub returns-then-not-is_keyword : goal.returns-then-not-is_keyword
unfolding is_raw
returns-then-not-is_keyword c = let e = sym c.is_keyword.ensures ∙ c.if-not-is_keyword.true in rw (is_raw, e)

pub returns : goal.returns
unfolding is_raw
returns c = let e = sym c.is_keyword.ensures ∙ c.if-not-is_keyword.false in rw (is_raw, e) (ap not c.is_plain.ensures)
