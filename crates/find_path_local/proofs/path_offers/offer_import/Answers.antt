use mathlib.Core.Path.{refl, sym, ap, ◌∙◌}
use borrow.Author.Tests.{not-true, not-false}
use Rattle.snapshot.specs.Records.{import_at}
use Rattle.find_path_choice.specs.Choices.{unstably}
use Rattle.find_path_choice.specs.Given.{given}
use Rattle.find_path_local.proofs.path_offers.OfferLaws.{unstably_fits, offer_none, import_stable, import_barred, import_unstable}
use Rattle.accept.specs.Opened.{snap_in}
use Rattle.find_path_local.proofs.path_offers.offer_import.Goals as goal

pub offer-requires : goal.offer-requires
offer-requires c = (
  rw c.import_name-n.ensures c.requires.0.name,
  c.requires.1,
  c.requires.2,
  c.requires.3,
  c.requires.4,
)

pub returns-then-not-is_unstable : goal.returns-then-not-is_unstable
returns-then-not-is_unstable c =
    let n = snap_in c.args.db.now in
    let i = import_at c.args.db.now.records.words.now c.args.h in
    c.offer.ensures ∙ import_stable n c.args.x (given c.args.best) (given c.args.c) i c.import_name-n.ensures
    c.step_by-via.ensures (sym c.is_unstable.ensures ∙ c.if-not-is_unstable.true)

pub returns-then-not-x : goal.returns-then-not-x
returns-then-not-x c =
    let n = snap_in c.args.db.now in
    let i = import_at c.args.db.now.records.words.now c.args.h in
    import_barred n c.args.x (given c.args.best) (given c.args.c) i c.import_name-n.ensures
    c.step_by-via.ensures (sym c.is_unstable.ensures
    ∙ c.if-not-is_unstable.false) (not-true _ c.if-not-x.true)

pub returns-in_default : goal.returns-in_default
unfolding unstably
returns-in_default c =
    let n = snap_in c.args.db.now in
    let i = import_at c.args.db.now.records.words.now c.args.h in
    offer_none n c.args.x (given c.args.best) (unstably (given c.args.c)) _ _ (ap (λ o. (given o).found) c.in_default.is)
    ∙ import_unstable n c.args.x (given c.args.best) (given c.args.c) i
    c.import_name-n.ensures
    c.step_by-via.ensures refl
    (sym c.is_unstable.ensures ∙ c.if-not-is_unstable.false)
    (not-false _ c.if-not-x.false)

pub offer-requires-2 : goal.offer-requires-2
offer-requires-2 c =
    let e = c.unstably.ensures ∙ sym (ap (λ o. unstably (given o)) c.in-Some.is) in
    let u = unstably_fits (given c.args.c) e c.requires.2 c.requires.3 c.requires.4 in
    (rw c.import_name-n.ensures c.requires.0.name, c.requires.1, u.0, u.1, u.2)

pub returns : goal.returns
returns c =
    let n = snap_in c.args.db.now in
    let i = import_at c.args.db.now.records.words.now c.args.h in
    c.offer-2.ensures ∙ import_unstable n c.args.x (given c.args.best) (given c.args.c) i
    c.import_name-n.ensures
    c.step_by-via.ensures (c.unstably.ensures ∙ sym (ap (λ o. unstably (given o)) c.in-Some.is))
    (sym c.is_unstable.ensures ∙ c.if-not-is_unstable.false)
    (not-false _ c.if-not-x.false)
