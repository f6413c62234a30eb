use mathlib.Core.Path.{sym, ap, ◌∙◌}
use Rattle.snapshot.specs.Kinds.{kind_number}
use Rattle.snapshot.proofs.KindLaws.{kind_known}
use Rattle.std.proofs.Common.{rules}
use Rattle.join.specs.records.Moves.{kept_at}
use Rattle.join.proofs.records.Laws.{kept_name, kept_definition}
use Rattle.join.proofs.records.write.is_kept.Goals as goal

pub returns-in-Some-Name : goal.returns-in-Some-Name
returns-in-Some-Name c =
    kept_name c.args.second.now.area.now c.args.second.now.first c.args.second.now.words.now c.args.at c.args.n c.kind.ensures
    (kind_known _ (sym c.of.ensures ∙ c.in-Some-Name.is) ∙ ap kind_number c.in-Some-Name.field-0-is) c.name_to.ensures

pub returns-in-Some-Definition : goal.returns-in-Some-Definition
returns-in-Some-Definition c =
    kept_definition c.args.second.now.area.now c.args.second.now.first c.args.second.now.words.now c.args.at c.args.n c.kind.ensures
    (kind_known _ (sym c.of.ensures ∙ c.in-Some-Definition.is) ∙ ap kind_number c.in-Some-Definition.field-0-is) c.definition_to.ensures

pub returns-in_default : goal.returns-in_default
unfolding kept_at
returns-in_default c = search rules

pub returns-in_default-2 : goal.returns-in_default-2
unfolding kept_at
returns-in_default-2 c = search rules
