use mathlib.Core.Path.{refl, sym, ap, ◌∙◌}
use Rattle.find_path_choice.specs.Given.{chosen, given}
use Rattle.find_path_spec.specs.Local.{offer}
use Rattle.find_path_local.proofs.path_offers.OfferLaws.{offer_none, offer_some}
use Rattle.accept.specs.Opened.{snap_in}
use Rattle.find_path_local.proofs.path_offers.offer.Goals as goal

pub returns-in_default : goal.returns-in_default
returns-in_default c =
    let n = snap_in c.args.db.now in
    offer_none n c.args.x (given c.args.best) (given c.args.c) c.args.n.0 c.args.via (ap (λ o. (given o).found) c.in_default.is)

pub returns : goal.returns
returns c =
    let n = snap_in c.args.db.now in
    c.try_select.ensures ∙ offer_some n c.args.x (given c.args.best) (chosen c.in-Some.other) c.args.n.0 c.args.via refl
    ∙ sym (ap (λ o. offer n c.args.x (given c.args.best) (given o) c.args.n.0 c.args.via) c.in-Some.is)
