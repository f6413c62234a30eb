use mathlib.Core.Path.{refl}
use native.Mathlib.Omega.{arith}
use Rattle.hir_def.proofs.Fits.{module_known}
use Rattle.snapshot.specs.declared.ids.DefinitionKind.TheVariants.{Module}
use Rattle.hir_def.proofs.KindTests.{kind_not, kind_so}
use Rattle.imports.proofs.lists.Walks.{pushed_none, pushed_one}
use Rattle.imports.proofs.lists.walk.push.Goals as goal

pub returns-then-ne : goal.returns-then-ne
returns-then-ne c =
    pushed_none c.requires.0 c.args.entry c.args.top c.scope_definition-d.ensures
    refl (kind_not Module _ c.ne.ensures (c.known_kind_of.ensures c.args.area.now) c.if-ne.true)

pub overflow_cast-area : goal.overflow_cast-area
overflow_cast-area c =
    let d = c.scope_definition-d.ensures in
    let e = kind_so Module _ c.ne.ensures (c.known_kind_of.ensures c.args.area.now) c.if-ne.false in
    let h = module_known _ _ _ c.requires.0.reads c.scope_definition-d.result.0 (omega arith) (omega arith) in
    let q = c.requires.0.reads.tables.limited.modules in
    omega (arith, c.first_of-m.ensures c.args.area.now)

pub returns : goal.returns
returns c =
    pushed_one c.requires.0 c.args.entry c.args.top c.scope_definition-d.ensures refl
    (omega arith) (omega (arith, c.pile_base.ensures)) (kind_so Module _ c.ne.ensures (c.known_kind_of.ensures c.args.area.now) c.if-ne.false)
    (c.first_of-m.ensures c.args.area.now)
