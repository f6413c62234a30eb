use mathlib.Core.Path.{sym, ◌∙◌}
use borrow.Author.Tests.{eq-eqb, ne_eqb, eqb-false, eqb-true, not-false, not-true}
use Rattle.snapshot.specs.Layouts.{snap_of}
use Rattle.snapshot.specs.Records.{extern_at}
use Rattle.any_path.proofs.Plains.{name_tried, name_passed}
use Rattle.any_path.proofs.firsts.offer_owned.Goals as goal

pub returns-then-ne : goal.returns-then-ne
returns-then-ne c =
    let W = c.args.records.now.words.now in
    let from = c.args.from.0 in
    let A = c.args.area.now in
    let L = c.args.records.now.layout in
    let S = snap_of W A L in
    name_passed S from (extern_at W c.args.h).name
    (ne_eqb _ _ (λ e. (eqb-false _ _ (not-true _ (sym c.ne.ensures ∙ c.if-ne.true))) (c.extern_owner.ensures ∙ e))) c.requires.3

pub returns : goal.returns
returns c =
    let W = c.args.records.now.words.now in
    let from = c.args.from.0 in
    let A = c.args.area.now in
    let L = c.args.records.now.layout in
    let S = snap_of W A L in
    name_tried S from (extern_at W c.args.h).name
    (eq-eqb _ _ (sym c.extern_owner.ensures ∙ (eqb-true _ _ (not-false _ (sym c.ne.ensures ∙ c.if-ne.false))))) c.extern_name.ensures
    c.offer_plain.ensures
