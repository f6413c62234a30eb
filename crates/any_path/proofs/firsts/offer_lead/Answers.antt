use mathlib.Core.Path.{sym, ◌∙◌}
use Rattle.snapshot.specs.Layouts.{snap_of}
use Rattle.snapshot.specs.Records.{scope_at}
use Rattle.any_path.proofs.Plains.{name_tried, name_passed}
use Rattle.any_path.proofs.firsts.offer_lead.Goals as goal

pub returns-then-leads_on : goal.returns-then-leads_on
returns-then-leads_on c =
    let W = c.args.records.now.words.now in
    let from = c.args.from.0 in
    let A = c.args.area.now in
    let L = c.args.records.now.layout in
    let S = snap_of W A L in
    name_tried S from (scope_at W c.args.h).name (sym c.leads_on.ensures ∙ c.if-leads_on.true) c.scope_name.ensures c.offer_plain.ensures

pub returns : goal.returns
returns c =
    let W = c.args.records.now.words.now in
    let from = c.args.from.0 in
    let A = c.args.area.now in
    let L = c.args.records.now.layout in
    let S = snap_of W A L in
    name_passed S from (scope_at W c.args.h).name (sym c.leads_on.ensures ∙ c.if-leads_on.false) c.requires.3
