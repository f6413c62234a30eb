use Rattle.snapshot.specs.declared.ids.DefinitionKind.TheVariants.{Macro}
use Rattle.hir_def.proofs.KindTests.{kind_apart}
use Rattle.answer.proofs.checked.Laws.{unknown, no_macro, sound, definitions_count}
use Rattle.snapshot.specs.Laid.{snap_by}
use Rattle.module_tree.proofs.Reading.{length_modules}
use Rattle.answer.proofs.checked.faults.question_fault.Goals as goal

pub returns-then-unknown : goal.returns-then-unknown
returns-then-unknown c =
    let s = c.args in
    λ A. unknown (snap_by s.records.now A) s.q s.records.now.layout.definitions s.records.now.layout.modules
    (definitions_count s.records.now.words.now A s.records.now.layout)
    (length_modules s.records.now.words.now A s.records.now.layout) c.if-unknown.true

pub returns-then-misfit : goal.returns-then-misfit
returns-then-misfit c =
    let s = c.args in
    λ A. no_macro (snap_by s.records.now A) s.q s.records.now.layout.definitions s.records.now.layout.modules
    (definitions_count s.records.now.words.now A s.records.now.layout)
    (length_modules s.records.now.words.now A s.records.now.layout) _ c.if-unknown.false
    (kind_apart Macro _ c.ne.ensures (c.known_kind_of-kind.ensures A)) c.if-misfit.true

pub returns : goal.returns
returns c =
    let s = c.args in
    λ A. sound (snap_by s.records.now A) s.q s.records.now.layout.definitions s.records.now.layout.modules
    (definitions_count s.records.now.words.now A s.records.now.layout)
    (length_modules s.records.now.words.now A s.records.now.layout) _ c.if-unknown.false
    (kind_apart Macro _ c.ne.ensures (c.known_kind_of-kind.ensures A)) c.if-misfit.false
