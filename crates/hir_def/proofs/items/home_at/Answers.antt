use mathlib.Core.Path.{ap, ◌∙◌}
use Prim.Native.Nat.{◌+◌}
use Rattle.snapshot.specs.Ids.{plus_one}
use Rattle.snapshot.specs.declared.ids.DefinitionKind.TheVariants.{Variant, Builtin}
use Rattle.hir_def.proofs.KindTests.{kind_yes, kind_no}
use Rattle.hir_def.proofs.Lookups.{home_builtin, home_variant, home_other}
use Rattle.hir_def.proofs.items.home_at.Goals as goal

pub returns-then-eq : goal.returns-then-eq
unfolding plus_one
returns-then-eq c = λ A. home_builtin _ _ _ (kind_yes Builtin _ c.eq.ensures c.known_definition_kind-kind.ensures c.if-eq.true)

pub returns-then-eq-2 : goal.returns-then-eq-2
unfolding plus_one
returns-then-eq-2 c =
    λ A.
    let k = c.known_definition_kind-kind.ensures in
    home_variant _ _ _ (kind_no Builtin _ c.eq.ensures k c.if-eq.false) (kind_yes Variant _ c.eq-2.ensures k c.if-eq-2.true)
    (c.definition_first.ensures ∙ (c.definition_head-parent.ensures A).first) c.definition_first-first.ensures

pub returns : goal.returns
unfolding plus_one
returns c =
    λ A.
    let k = c.known_definition_kind-kind.ensures in
    ap (λ x. x + 1) c.definition_first-first.ensures
    ∙ home_other _ _ _ (kind_no Builtin _ c.eq.ensures k c.if-eq.false) (kind_no Variant _ c.eq-2.ensures k c.if-eq-2.false)
