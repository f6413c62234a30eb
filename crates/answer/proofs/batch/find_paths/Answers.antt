use mathlib.Core.Path.{sym, ap, ◌∙◌}
use lib.ListN.{length}
use Rattle.reports.proofs.questions.Laws.{fits_room}
use Rattle.answer.specs.Answers.{zeros}
use Rattle.answer.proofs.Areas.{front_long}
use Rattle.answer.proofs.checked.Laws.{checks_judged}
use Rattle.answer.proofs.batch.Laws.{batch_small, batch_not, batch_all}
use Rattle.answer.proofs.batch.find_paths.Goals as goal

pub returns-in_default : goal.returns-in_default
returns-in_default c =
    let s = c.args in
    batch_small s.words.now s.area.now s.questions.now s.reports.now c.in_default.ensures.cases

pub returns-then-not-fits : goal.returns-then-not-fits
returns-then-not-fits c =
    let s = c.args in
    let f = c.in-Some.ensures.cases in
    batch_not s.words.now s.area.now s.questions.now s.reports.now f.enough c.clear.new.area
    (c.clear.ensures ∙ ap zeros (front_long f)) _ c.fits.ensures c.if-not-fits.true

pub report_each-requires : goal.report_each-requires
report_each-requires c = (
  checks_judged c.args.words.now c.in-Some.front.now _ _ (front_long c.in-Some.ensures.cases) c.check-c.ensures,
  fits_room (length c.args.questions.now) (length c.args.reports.now) (sym c.fits.ensures ∙ c.if-not-fits.false),
)

pub returns : goal.returns
returns c =
    let s = c.args in
    batch_all s.words.now s.area.now s.questions.now s.reports.now c.in-Some.ensures.cases.enough c.clear-2.new.area
    (c.clear-2.ensures ∙ ap zeros c.report_each.array_long) _ c.fits.ensures c.if-not-fits.false _ c.report_each.ensures.reports_after
