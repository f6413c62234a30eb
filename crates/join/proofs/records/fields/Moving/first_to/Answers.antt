use mathlib.Core.Path.{sym, ap, ◌∙◌}
use Rattle.snapshot.specs.DefinitionKinds.{definition_kind_number}
use Rattle.snapshot.proofs.KindLaws.{definition_known}
use Rattle.join.specs.records.Moves.{numbers_of}
use Rattle.join.proofs.records.Laws.{first_variant, first_builtin}
use Rattle.join.proofs.records.fields.Moving.first_to.Goals as goal

pub returns-in-Some-Variant : goal.returns-in-Some-Variant
returns-in-Some-Variant c =
    c.definition_to.ensures ∙ first_variant (numbers_of c.args.self.now.area.now c.args.self.now.first) c.args.k c.args.n
    (definition_known _ (sym c.of.ensures ∙ c.in-Some-Variant.is) ∙ ap definition_kind_number c.in-Some-Variant.field-0-is)

pub returns-in-Some-Builtin : goal.returns-in-Some-Builtin
returns-in-Some-Builtin c =
    c.name_to.ensures ∙ first_builtin (numbers_of c.args.self.now.area.now c.args.self.now.first) c.args.k c.args.n
    (definition_known _ (sym c.of.ensures ∙ c.in-Some-Builtin.is) ∙ ap definition_kind_number c.in-Some-Builtin.field-0-is)
