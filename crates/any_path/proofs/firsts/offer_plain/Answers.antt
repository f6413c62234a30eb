use mathlib.Core.Path.{refl, sym, ap, ◌∙◌}
use native.Mathlib.Omega.{arith}
use Rattle.module_tree.proofs.Climbs.{some_number, none_number}
use Rattle.any_path.specs.Plain.{module_in}
use Rattle.any_path.proofs.Plains.{plain_known, plain_place, plain_offered, plain_passed}
use Rattle.any_path.proofs.firsts.offer_plain.Goals as goal

pub returns-in_default : goal.returns-in_default
returns-in_default c =
    plain_passed _ _ c.args.name.0 c.requires.2
    (ap module_in (sym c.read_plain-r.ensures) ∙ none_number _ (c.module_read.ensures c.args.area.now) c.in_default.is)

pub offer-requires : goal.offer-requires
offer-requires c =
    let is = ap module_in (sym c.read_plain-r.ensures) ∙ some_number _ (c.module_read.ensures c.args.area.now) c.in-Some.is in
    let limits = c.requires.0.tables.limited in
    let known = plain_known _ _ _ c.requires.0 _ c.args.name.0 c.requires.1 is in
    let place = plain_place _ _ _ c.requires.0 _ c.args.name.0 c.read_plain-r.ensures (c.place_read.ensures _ _) in
    (c.requires.2, limits.modules, known, omega arith, omega (arith, c.requires.3, limits.names), omega (arith, place))

pub returns : goal.returns
returns c =
    plain_offered _ _ c.args.name.0
    (ap module_in (sym c.read_plain-r.ensures) ∙ some_number _ (c.module_read.ensures c.args.area.now) c.in-Some.is) refl c.offer.ensures
