use mathlib.Core.Path.{refl}
use native.Mathlib.Omega.{arith}
use Rattle.snapshot.specs.declared.ids.DefinitionKind.TheVariants.{Variant}
use Rattle.hir_def.proofs.KindTests.{kind_yes, kind_no}
use Rattle.find_path.proofs.Items.{variant_module, variant_yes, variant_no}
use Rattle.find_path.proofs.variant_of.Goals as goal

pub returns-in_default : goal.returns-in_default
returns-in_default c = λ A. variant_module _ c.in_default.is

pub returns-then-eq : goal.returns-then-eq
returns-then-eq c =
    λ A.
    let r = c.definition_head-h.ensures A in
    let k = kind_yes Variant _ c.eq.ensures c.known_definition_kind.ensures c.if-eq.true in
    variant_yes _ c.in-Def.is (r.whole (omega (arith, r.kind, k))) refl k

pub returns : goal.returns
returns c =
    λ A.
    variant_no _ c.in-Def.is (c.definition_head-h.ensures A).kind
    (kind_no Variant _ c.eq.ensures c.known_definition_kind.ensures c.if-eq.false)
