use lib.Seq.{length-take-le}
use Rattle.snapshot.specs.Limits.{area_limit}
use mathlib.Core.Path.{refl, sym, subst⁻¹, ◌∙◌}
use mathlib.Core.List.{List}
use Prim.Native.Nat.{ℕ}
use native.Mathlib.Omega.{arith}
use Rattle.std.specs.Prelude.{Ok}
use Rattle.accept.specs.Post.{Judged}
use lib.ListN.{length}
use Rattle.reports.proofs.questions.Laws.{fits_room}
use Rattle.answer.proofs.asked.Laws.{layout_fits, judged_part, asked_not, asked_each}
use Rattle.answer.proofs.asked.each.find_paths_checked.Goals as goal

pub returns-then-not-fits : goal.returns-then-not-fits
returns-then-not-fits c =
    asked_not c.args.words.now c.args.area.now c.args.counts.now c.requires c.args.questions.now c.args.reports.now
    _ c.fits.ensures c.if-not-fits.true

pub layout_of-l-requires : goal.layout_of-l-requires
layout_of-l-requires c =
    layout_fits c.args.words.now c.args.area.now c.args.counts.now c.requires

pub returns-in_default : goal.returns-in_default
returns-in_default c = absurd (omega (arith, c.in_default.ensures.cases, c.requires.room))

pub report_front-requires : goal.report_front-requires
report_front-requires c =
    let j = judged_part c.args.words.now c.args.area.now c.args.counts.now c.requires _ _ c.layout_of-l.ensures refl in (
      subst⁻¹ (λ (A : List ℕ). Judged c.args.words.now A (Ok c.layout_of-l.result)) c.in-Some.ensures.cases.same j.0,
      fits_room (length c.args.questions.now) (length c.args.reports.now) (sym c.fits.ensures
          ∙ c.if-not-fits.false),
    )

pub returns : goal.returns
returns c =
    asked_each c.args.words.now c.args.area.now c.args.counts.now c.requires c.args.questions.now c.args.reports.now
    _ c.fits.ensures c.if-not-fits.false _ _ c.layout_of-l.ensures refl
    c.report_front.new.area (c.report_front.ensures.long ∙ sym (length-take-le area_limit c.args.area.now c.requires.room))
    c.report_front.ensures.judged _ c.report_front.ensures.reports_after
