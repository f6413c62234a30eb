use mathlib.Core.Path.{◌∙◌}
use Rattle.join.proofs.numbers.moved.moved_definition.Goals as goal

pub returns : goal.returns
returns c = λ s t h l. c.word.ensures ∙ h.definitions _ l
