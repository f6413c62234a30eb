use mathlib.Core.Path.{ap, ◌∙◌}
use Rattle.snapshot.specs.DefinitionKinds.{definition_kind_of}
use Rattle.hir_def.proofs.items.known_kind_of.Goals as goal

pub returns : goal.returns
returns c = λ A. c.of.ensures ∙ ap definition_kind_of (c.kind_of.ensures A)
