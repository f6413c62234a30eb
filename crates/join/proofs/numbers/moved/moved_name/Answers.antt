use mathlib.Core.Path.{◌∙◌}
use Rattle.join.proofs.numbers.moved.moved_name.Goals as goal

pub returns : goal.returns
returns c = λ s t h l. c.word.ensures ∙ h.names _ l
