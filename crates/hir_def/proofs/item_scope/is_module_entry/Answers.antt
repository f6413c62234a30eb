use mathlib.Core.Path.{sym, ap, ap₂, ◌∙◌}
use mathlib.Core.Bool.{◌&&◌}
use lib.Dec.{eqb}
use borrow.Author.Tests.{not-true, not-false}
use Rattle.snapshot.specs.Layouts.{snap_of}
use Rattle.accept.proofs.Laws.{and_no, and_yes}
use Rattle.hir_def.specs.Items.{definition_of}
use Rattle.snapshot.specs.declared.ids.DefinitionKind.TheVariants.{Module}
use Rattle.hir_def.proofs.KindTests.{kind_is}
use Rattle.hir_def.proofs.item_scope.is_module_entry.Goals as goal

pub returns-then-ne : goal.returns-then-ne
returns-then-ne c = λ A. and_no _ (ap (λ o. eqb o c.args.m.0) (sym c.scope_owner.ensures) ∙ not-true _ (sym c.ne.ensures ∙ c.if-ne.true))

pub returns : goal.returns
returns c =
    λ A.
    let S = snap_of c.args.records.now.words.now A c.args.records.now.layout in
    and_yes (ap (λ o. eqb o c.args.m.0) (sym c.scope_owner.ensures) ∙ not-false _ (sym c.ne.ensures ∙ c.if-ne.false))
    (ap₂ (λ n k. eqb n 0 && k) c.scope_ns.ensures (kind_is Module _ c.eq.ensures (c.known_kind_of-kind.ensures A)
    ∙ ap (λ d. eqb (definition_of S d).kind 1) c.scope_definition.ensures))
