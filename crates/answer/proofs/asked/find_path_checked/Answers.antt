use lib.Seq.{length-take-le}
use Rattle.snapshot.specs.Limits.{area_limit}
use mathlib.Core.Path.{refl, sym, subst⁻¹, ◌∙◌}
use mathlib.Core.List.{List}
use Prim.Native.Nat.{ℕ}
use native.Mathlib.Omega.{arith}
use Rattle.std.specs.Prelude.{Ok}
use Rattle.accept.specs.Post.{Judged}
use Rattle.answer.proofs.asked.Laws.{layout_fits, judged_part, asked_by_lem}
use Rattle.answer.proofs.asked.find_path_checked.Goals as goal

pub layout_of-l-requires : goal.layout_of-l-requires
layout_of-l-requires c =
    layout_fits c.args.words.now c.args.area.now c.args.counts.now c.requires

pub returns-in_default : goal.returns-in_default
returns-in_default c = absurd (omega (arith, c.in_default.ensures.cases, c.requires.room))

pub report_front-requires : goal.report_front-requires
report_front-requires c =
    subst⁻¹ (λ (A : List ℕ). Judged c.args.words.now A (Ok c.layout_of-l.result)) c.in-Some.ensures.cases.same
    (judged_part c.args.words.now c.args.area.now c.args.counts.now c.requires _ _ c.layout_of-l.ensures refl).0

pub returns : goal.returns
returns c =
    asked_by_lem c.args.words.now c.args.area.now c.args.counts.now c.requires _ _ c.layout_of-l.ensures refl
    c.report_front.new.area (c.report_front.ensures.long ∙ sym (length-take-le area_limit c.args.area.now c.requires.room))
    c.args.question _ c.report_front.ensures.report
