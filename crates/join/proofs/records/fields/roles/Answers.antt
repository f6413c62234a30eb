use mathlib.Core.Path.{◌≡◌, refl, sym, ap}
use mathlib.Core.Logic.{inl, inr}
use Rattle.snapshot.specs.Lists.{rows}
use Rattle.snapshot.specs.Kinds.{kind_number}
use Rattle.snapshot.specs.declared.kind.Kind.{Kind}
use Rattle.join.specs.records.Moves.{role_of}
use Rattle.join.proofs.records.fields.roles.Goals as goal

-- the roles of a kind are those of the kind that it is
roles_as : {kind k : Kind} → kind ≡ k → rows (role_of (kind_number k)) 0 8 ≡ rows (role_of (kind_number kind)) 0 8
roles_as e = ap (λ (j : Kind). rows (role_of (kind_number j)) 0 8) (sym e)

pub returns-in-Name : goal.returns-in-Name
unfolding role_of rows
returns-in-Name c = (refl, elim c.in-Name.is [ inl e ↦ roles_as e | inr e ↦ roles_as e ])

pub returns-in-Dependency : goal.returns-in-Dependency
unfolding role_of rows
returns-in-Dependency c = (refl, roles_as c.in-Dependency.is)

pub returns-in-Map : goal.returns-in-Map
unfolding role_of rows
returns-in-Map c = (refl, roles_as c.in-Map.is)

pub returns-in-Module : goal.returns-in-Module
unfolding role_of rows
returns-in-Module c = (refl, roles_as c.in-Module.is)

pub returns-in-Child : goal.returns-in-Child
unfolding role_of rows
returns-in-Child c = (refl, roles_as c.in-Child.is)

pub returns-in-Prelude : goal.returns-in-Prelude
unfolding role_of rows
returns-in-Prelude c = (refl, roles_as c.in-Prelude.is)

pub returns-in-Definition : goal.returns-in-Definition
unfolding role_of rows
returns-in-Definition c = (refl, roles_as c.in-Definition.is)

pub returns-in-Scope : goal.returns-in-Scope
unfolding role_of rows
returns-in-Scope c = (refl, roles_as c.in-Scope.is)

pub returns-in-Import : goal.returns-in-Import
unfolding role_of rows
returns-in-Import c = (refl, roles_as c.in-Import.is)

pub returns-in-Extern : goal.returns-in-Extern
unfolding role_of rows
returns-in-Extern c = (refl, roles_as c.in-Extern.is)

pub returns-in-Member : goal.returns-in-Member
unfolding role_of rows
returns-in-Member c = (refl, roles_as c.in-Member.is)
