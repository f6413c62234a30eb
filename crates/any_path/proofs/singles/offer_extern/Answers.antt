use mathlib.Core.Path.{sym, ◌∙◌}
use borrow.Author.Tests.{eqb-false, eqb-true, not-false, not-true}
use Rattle.snapshot.specs.Records.{extern_at}
use Rattle.any_path.proofs.Externs.{extern_passed, extern_offered}
use Rattle.any_path.proofs.singles.offer_extern.Goals as goal

pub returns-then-ne : goal.returns-then-ne
returns-then-ne c =
    extern_passed (extern_at c.args.records.now.words.now c.args.h) c.extern_owner.ensures c.requires.2
    (eqb-false _ _ (not-true _ (sym c.ne.ensures ∙ c.if-ne.true)))

pub returns : goal.returns
returns c =
    extern_offered (extern_at c.args.records.now.words.now c.args.h) c.extern_owner.ensures
    (eqb-true _ _ (not-false _ (sym c.ne.ensures ∙ c.if-ne.false))) c.extern_target-target.ensures
    c.extern_name-name.ensures c.offer.ensures
