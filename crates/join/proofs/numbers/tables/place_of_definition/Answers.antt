use Prim.Native.Nat.{◌+◌, ◌*◌}
use mathlib.Core.Path.{refl, ◌∙◌, ap}
use Rattle.snapshot.specs.DefinitionKinds.{definition_kind_of}
use Rattle.snapshot.specs.Sizes.{definition_size}
use Rattle.snapshot.specs.Records.{definition_at}
use Rattle.snapshot.specs.Layouts.{definition_base}
use Rattle.snapshot.specs.declared.ids.DefinitionKind.TheVariants.{Builtin}
use Rattle.hir_def.proofs.KindTests.{kind_not, kind_so}
use Rattle.join.proofs.numbers.Turns.{other_place, builtin_place}
use Rattle.join.proofs.numbers.tables.place_of_definition.Goals as goal

pub returns-then-ne : goal.returns-then-ne
returns-then-ne c =
    let a = c.args in
    let b = c.definition_base.ensures in
    let k = c.known_definition_kind.ensures
    ∙ ap (λ j. definition_kind_of (definition_at a.parts.now.second.words.now (j + definition_size * a.d.0)).kind) b in
    other_place a.parts.now.first.words.now a.parts.now.second.words.now a.area.now a.parts.now.first.layout a.parts.now.second.layout
    c.requires.ready.0
    (definition_at a.parts.now.second.words.now (definition_base a.parts.now.second.layout + definition_size * a.d.0)) refl
    (kind_not Builtin _ c.ne.ensures k c.if-ne.true)

pub returns : goal.returns
returns c =
    let a = c.args in
    let b = c.definition_base.ensures in
    let k = c.known_definition_kind.ensures
    ∙ ap (λ j. definition_kind_of (definition_at a.parts.now.second.words.now (j + definition_size * a.d.0)).kind) b in
    let f = c.definition_first.ensures ∙ ap (λ j. (definition_at a.parts.now.second.words.now (j + definition_size * a.d.0)).first) b in
    builtin_place a.parts.now.first.words.now a.parts.now.second.words.now a.area.now a.parts.now.first.layout a.parts.now.second.layout
    c.requires.ready.0 a.d.0 c.requires.holds
    c.requires.ready.1 refl (kind_so Builtin _ c.ne.ensures k c.if-ne.false) f c.field-name.ensures
    c.place_of_builtin.ensures
