use mathlib.Core.Path.{◌∙◌}
use Rattle.snapshot.specs.Records.{scope_at}
use Rattle.find_path_choice.specs.Given.{given}
use Rattle.find_path_local.proofs.path_offers.OfferLaws.{entry_offered}
use Rattle.accept.specs.Opened.{snap_in}
use Rattle.find_path_local.proofs.path_offers.offer_entry.Goals as goal

pub offer-requires : goal.offer-requires
offer-requires c = (
  rw c.scope_name-n.ensures c.requires.0.name,
  c.requires.1,
  c.requires.2,
  c.requires.3,
  c.requires.4,
)

pub returns : goal.returns
returns c =
    let n = snap_in c.args.db.now in
    let e = scope_at c.args.db.now.records.words.now c.args.h in
    c.offer.ensures ∙ entry_offered n c.args.x (given c.args.best) (given c.args.c) e c.scope_name-n.ensures
    c.step_by-via.ensures
