-- A record's step, by its kind.
use native.Mathlib.Omega.{arith}
use mathlib.Core.Path.{refl, ap}
use Rattle.snapshot.specs.Words.{arguments_of}
use Rattle.check_rules.specs.Verdict.{record_step}
use Rattle.snapshot.specs.Kinds.{kind_number}
use Rattle.accept.proofs.Turns.{kind_ready, kind_answers}
use Rattle.accept.proofs.turn.by_kind.Goals as goal

pub step-requires : goal.step-requires
unfolding arguments_of record_step
step-requires c = kind_ready 1 c.requires.of_kind (ap kind_number c.in-Name.is) refl c.requires.ready

pub step-requires-in-Crate : goal.step-requires-in-Crate
unfolding arguments_of record_step
step-requires-in-Crate c = kind_ready 2 c.requires.of_kind (ap kind_number c.in-Crate.is) (omega arith) c.requires.ready

pub step-requires-in-Dependency : goal.step-requires-in-Dependency
unfolding arguments_of record_step
step-requires-in-Dependency c = kind_ready 3 c.requires.of_kind (ap kind_number c.in-Dependency.is) (omega arith) c.requires.ready

pub step-requires-in-Map : goal.step-requires-in-Map
unfolding arguments_of record_step
step-requires-in-Map c = kind_ready 4 c.requires.of_kind (ap kind_number c.in-Map.is) (omega arith) c.requires.ready

pub step-requires-in-Module : goal.step-requires-in-Module
unfolding arguments_of record_step
step-requires-in-Module c = kind_ready 5 c.requires.of_kind (ap kind_number c.in-Module.is) (omega arith) c.requires.ready

pub step-requires-in-Child : goal.step-requires-in-Child
unfolding arguments_of record_step
step-requires-in-Child c = kind_ready 6 c.requires.of_kind (ap kind_number c.in-Child.is) (omega arith) c.requires.ready

pub step-requires-in-Prelude : goal.step-requires-in-Prelude
unfolding arguments_of record_step
step-requires-in-Prelude c = kind_ready 7 c.requires.of_kind (ap kind_number c.in-Prelude.is) (omega arith) c.requires.ready

pub step-requires-in-Definition : goal.step-requires-in-Definition
unfolding arguments_of record_step
step-requires-in-Definition c = kind_ready 8 c.requires.of_kind (ap kind_number c.in-Definition.is) (omega arith) c.requires.ready

pub step-requires-in-Scope : goal.step-requires-in-Scope
unfolding arguments_of record_step
step-requires-in-Scope c = kind_ready 9 c.requires.of_kind (ap kind_number c.in-Scope.is) (omega arith) c.requires.ready

pub step-requires-in-Import : goal.step-requires-in-Import
unfolding arguments_of record_step
step-requires-in-Import c = kind_ready 10 c.requires.of_kind (ap kind_number c.in-Import.is) (omega arith) c.requires.ready

pub step-requires-in-Extern : goal.step-requires-in-Extern
unfolding arguments_of record_step
step-requires-in-Extern c = kind_ready 11 c.requires.of_kind (ap kind_number c.in-Extern.is) (omega arith) c.requires.ready

pub step-requires-in-Member : goal.step-requires-in-Member
unfolding arguments_of record_step
step-requires-in-Member c = kind_ready 13 c.requires.of_kind (ap kind_number c.in-Member.is) (omega arith) c.requires.ready

pub returns-in-Name : goal.returns-in-Name
unfolding arguments_of record_step
returns-in-Name c = kind_answers 1 c.requires.of_kind (ap kind_number c.in-Name.is) refl _ _ c.step.ensures

pub returns-in-Crate : goal.returns-in-Crate
unfolding arguments_of record_step
returns-in-Crate c = kind_answers 2 c.requires.of_kind (ap kind_number c.in-Crate.is) (omega arith) _ _ c.step-in-Crate.ensures

pub returns-in-Dependency : goal.returns-in-Dependency
unfolding arguments_of record_step
returns-in-Dependency c = kind_answers 3 c.requires.of_kind (ap kind_number c.in-Dependency.is) (omega arith) _ _ c.step-in-Dependency.ensures

pub returns-in-Map : goal.returns-in-Map
unfolding arguments_of record_step
returns-in-Map c = kind_answers 4 c.requires.of_kind (ap kind_number c.in-Map.is) (omega arith) _ _ c.step-in-Map.ensures

pub returns-in-Module : goal.returns-in-Module
unfolding arguments_of record_step
returns-in-Module c = kind_answers 5 c.requires.of_kind (ap kind_number c.in-Module.is) (omega arith) _ _ c.step-in-Module.ensures

pub returns-in-Child : goal.returns-in-Child
unfolding arguments_of record_step
returns-in-Child c = kind_answers 6 c.requires.of_kind (ap kind_number c.in-Child.is) (omega arith) _ _ c.step-in-Child.ensures

pub returns-in-Prelude : goal.returns-in-Prelude
unfolding arguments_of record_step
returns-in-Prelude c = kind_answers 7 c.requires.of_kind (ap kind_number c.in-Prelude.is) (omega arith) _ _ c.step-in-Prelude.ensures

pub returns-in-Definition : goal.returns-in-Definition
unfolding arguments_of record_step
returns-in-Definition c = kind_answers 8 c.requires.of_kind (ap kind_number c.in-Definition.is) (omega arith) _ _ c.step-in-Definition.ensures

pub returns-in-Scope : goal.returns-in-Scope
unfolding arguments_of record_step
returns-in-Scope c = kind_answers 9 c.requires.of_kind (ap kind_number c.in-Scope.is) (omega arith) _ _ c.step-in-Scope.ensures

pub returns-in-Import : goal.returns-in-Import
unfolding arguments_of record_step
returns-in-Import c = kind_answers 10 c.requires.of_kind (ap kind_number c.in-Import.is) (omega arith) _ _ c.step-in-Import.ensures

pub returns-in-Extern : goal.returns-in-Extern
unfolding arguments_of record_step
returns-in-Extern c = kind_answers 11 c.requires.of_kind (ap kind_number c.in-Extern.is) (omega arith) _ _ c.step-in-Extern.ensures

pub returns-in-Member : goal.returns-in-Member
unfolding arguments_of record_step
returns-in-Member c = kind_answers 13 c.requires.of_kind (ap kind_number c.in-Member.is) (omega arith) _ _ c.step-in-Member.ensures
