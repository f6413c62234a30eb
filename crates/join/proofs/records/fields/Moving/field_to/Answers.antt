use native.Mathlib.Omega.{arith}
use mathlib.Core.Path.{ap, ◌∙◌}
use Rattle.join.specs.records.Roles.{role_number}
use Rattle.join.proofs.records.Laws.{under, field_crate, field_map, field_module, field_parent, field_name, field_definition, field_first}
use Rattle.join.proofs.records.Laws.{field_second, field_seen, field_nothing}
use Rattle.join.proofs.records.fields.Moving.field_to.Goals as goal

pub returns-in-Nothing : goal.returns-in-Nothing
returns-in-Nothing c = field_nothing _ _ _ _ _ (ap role_number c.in-Nothing.is)

pub overflow_add-result : goal.overflow_add-result
overflow_add-result c = omega (arith, under (field_crate _ _ _ _ _ (ap role_number c.in-Crate.is)) c.requires)

pub returns-in-Crate : goal.returns-in-Crate
returns-in-Crate c = field_crate _ _ _ _ _ (ap role_number c.in-Crate.is)

pub overflow_add-result-in-Map : goal.overflow_add-result-in-Map
overflow_add-result-in-Map c = omega (arith, under (field_map _ _ _ _ _ (ap role_number c.in-Map.is)) c.requires)

pub returns-in-Map : goal.returns-in-Map
returns-in-Map c = field_map _ _ _ _ _ (ap role_number c.in-Map.is)

pub overflow_add-result-in-Module : goal.overflow_add-result-in-Module
overflow_add-result-in-Module c = omega (arith, under (field_module _ _ _ _ _ (ap role_number c.in-Module.is)) c.requires)

pub returns-in-Module : goal.returns-in-Module
returns-in-Module c = field_module _ _ _ _ _ (ap role_number c.in-Module.is)

pub parent_to-requires : goal.parent_to-requires
parent_to-requires c = under (field_parent _ _ _ _ _ (ap role_number c.in-Parent.is)) c.requires

pub returns-in-Parent : goal.returns-in-Parent
returns-in-Parent c = c.parent_to.ensures ∙ field_parent _ _ _ _ _ (ap role_number c.in-Parent.is)

pub returns-in-Name : goal.returns-in-Name
returns-in-Name c = c.name_to.ensures ∙ field_name _ _ _ _ _ (ap role_number c.in-Name.is)

pub returns-in-Definition : goal.returns-in-Definition
returns-in-Definition c = c.definition_to.ensures ∙ field_definition _ _ _ _ _ (ap role_number c.in-Definition.is)

pub first_to-requires : goal.first_to-requires
first_to-requires c = under (field_first _ _ _ _ _ (ap role_number c.in-First.is)) c.requires

pub returns-in-First : goal.returns-in-First
returns-in-First c = c.first_to.ensures ∙ field_first _ _ _ _ _ (ap role_number c.in-First.is)

pub returns-in-Second : goal.returns-in-Second
returns-in-Second c = c.second_to.ensures ∙ field_second _ _ _ _ _ (ap role_number c.in-Second.is)

pub seen_to-requires : goal.seen_to-requires
seen_to-requires c = under (field_seen _ _ _ _ _ (ap role_number c.in-Seen.is)) c.requires

pub returns-in-Seen : goal.returns-in-Seen
returns-in-Seen c = c.seen_to.ensures ∙ field_seen _ _ _ _ _ (ap role_number c.in-Seen.is)
