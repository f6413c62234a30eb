use mathlib.Core.Path.{sym, ap, ◌∙◌}
use mathlib.Core.Bool.{◌&&◌}
use lib.Dec.{eqb}
use borrow.Author.Tests.{eqb-true, eqb-false, not-true, not-false}
use Rattle.snapshot.specs.Records.{scope_at}
use Rattle.any_path.proofs.seen_entries.Laws.{declaration_not, declaration_so}
use Rattle.any_path.proofs.seen_entries.entries.is_declaration.Goals as goal

pub returns-then-ne : goal.returns-then-ne
returns-then-ne c =
    declaration_not c.args.m.0 c.args.ns c.args.d.0 (scope_at c.args.words.now c.args.h)
    (λ e. eqb-false _ _ (not-true _ (sym c.ne.ensures ∙ c.if-ne.true)) (c.scope_owner.ensures ∙ e))

pub returns : goal.returns
returns c =
    ap (λ t. (eqb c.scope_ns.result c.args.ns && t) && c.is_declared.result) c.eq.ensures
    ∙ declaration_so c.args.m.0 c.args.ns c.args.d.0 (scope_at c.args.words.now c.args.h)
    (sym c.scope_owner.ensures ∙ eqb-true _ _ (not-false _ (sym c.ne.ensures ∙ c.if-ne.false))) _ _ _ c.scope_ns.ensures
    c.scope_definition.ensures c.is_declared.ensures
