use mathlib.Core.Path.{ap, ◌∙◌}
use Rattle.snapshot.specs.reading.Words.{text_at}
use Rattle.snapshot.proofs.text.text_of.Goals as goal

pub returns : goal.returns
returns c = c.text_at.ensures ∙ ap (text_at c.args.words.now) c.name_head.ensures
