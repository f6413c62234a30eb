use mathlib.Core.Path.{refl}
use Rattle.snapshot.specs.Lists.{rows}
use Rattle.keywords.proofs.Laws.{edition_known}
use Rattle.keywords.proofs.is_keyword.Goals as goal

pub returns : goal.returns
unfolding rows
returns c = edition_known _ _ refl _ c.known.ensures c.keywords_in-n.ensures.0
