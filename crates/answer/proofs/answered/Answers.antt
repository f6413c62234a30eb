use mathlib.Core.Path.{refl, sym}
use Rattle.check_rules.proofs.Exits.{err_is}
use Rattle.snapshot.specs.Limits.{area_limit}
use Rattle.snapshot.proofs.Laws.{refusal_some}
use Rattle.answer.proofs.checked.Laws.{report_fault, report_verdict, by_refusal, by_answer, refused_verdict, accepted_reads}
use Rattle.answer.proofs.answered.Goals as goal

pub returns-in_err-call_fault : goal.returns-in_err-call_fault
returns-in_err-call_fault c =
    rw (err_is _ _ c.from_residual.ensures.1)
    (report_fault c.args.words.now area_limit c.args.question _ _ c.in_err-call_fault.ensures (refusal_some _) refl)

pub returns-in_err-layout : goal.returns-in_err-layout
returns-in_err-layout c =
    let s = c.args in
    let k = refused_verdict s.words.now s.area.now _ _ c.told-area c.in_err-layout.ensures _ refl in
    rw (err_is _ _ c.from_residual-in_err-layout.ensures.1) (report_verdict s.words.now area_limit s.question _ _ c.in_ok-call_fault.ensures refl
    (by_refusal s.words.now s.question.query s.question.fuel _ _ _ k refl))

pub answer_on-requires : goal.answer_on-requires
answer_on-requires c = (
  accepted_reads c.args.words.now c.args.area.now c.check.new.area _ c.told-area c.in_ok-layout.ensures _ refl,
  c.in_ok-call_fault.ensures,
)

pub returns : goal.returns
returns c =
    let s = c.args in
    let r = accepted_reads s.words.now s.area.now c.check.new.area _ c.told-area c.in_ok-layout.ensures _ refl in
    report_verdict s.words.now area_limit s.question _ _ c.in_ok-call_fault.ensures refl
    (by_answer s.words.now s.question.query s.question.fuel _ _ (sym r.same) c.answer_on.ensures.value)
