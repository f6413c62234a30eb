use mathlib.Core.Path.{sym, ap, ◌∙◌}
use mathlib.Core.Bool.{◌&&◌}
use lib.Dec.{eqb}
use Rattle.snapshot.specs.declared.ids.DefinitionKind.TheVariants.{Module}
use Rattle.hir_def.proofs.Lookups.{item_module, item_other}
use Rattle.hir_def.proofs.KindTests.{kind_is}
use Rattle.hir_def.proofs.items.item_of.Goals as goal

pub returns-then-ns-eq : goal.returns-then-ns-eq
returns-then-ns-eq c =
    λ A.
    item_module _ _ _ (c.definition_head-h.ensures A).kind
    (ap (λ b. eqb c.args.ns 0 && b) (sym (kind_is Module _ c.eq.ensures c.known_definition_kind.ensures)) ∙ c.if-ns-eq.true)
    (c.definition_first.ensures ∙ (c.definition_head-h.ensures A).first)

pub returns : goal.returns
returns c =
    λ A.
    item_other _ _ _ (c.definition_head-h.ensures A).kind
    (ap (λ b. eqb c.args.ns 0 && b) (sym (kind_is Module _ c.eq.ensures c.known_definition_kind.ensures)) ∙ c.if-ns-eq.false)
