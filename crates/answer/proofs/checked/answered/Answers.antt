use mathlib.Core.Path.{refl}
use Rattle.check_rules.proofs.Exits.{err_is}
use Rattle.snapshot.specs.Limits.{area_limit}
use Rattle.snapshot.proofs.Laws.{refusal_some}
use Rattle.answer.proofs.checked.Laws.{reads_of, report_fault, report_verdict, report_refused, report_accepted}
use Rattle.answer.proofs.checked.answered.Goals as goal

pub returns-in_err-call_fault : goal.returns-in_err-call_fault
returns-in_err-call_fault c =
    rw (err_is _ _ c.from_residual.ensures.1) (record {
      report = report_fault c.args.words.now area_limit c.args.question _ _
          c.in_err-call_fault.ensures (refusal_some _) refl;
      checked = c.requires;
    })

pub returns-in_err-layout : goal.returns-in_err-layout
returns-in_err-layout c =
    let s = c.args in
    let k = report_refused s.words.now s.area.now s.c c.requires s.question.query s.question.fuel _ _ c.in_err-layout.was refl in
    rw (err_is _ _ c.from_residual-in_err-layout.ensures.1) (record {
      report = report_verdict s.words.now area_limit s.question _ _ c.in_ok-call_fault.ensures refl k.0;
      checked = k.1;
    })

pub answer_on-requires : goal.answer_on-requires
answer_on-requires c = (
  reads_of c.args.words.now c.args.area.now c.args.c c.requires _ c.in_ok-layout.was,
  c.in_ok-call_fault.ensures,
)

pub returns : goal.returns
returns c =
    let s = c.args in
    let f = c.answer_on.ensures in
    let k = report_accepted s.words.now s.area.now s.c c.requires s.question.query s.question.fuel _ c.in_ok-layout.layout _ c.in_ok-layout.was
    f.area_unchanged f.value in
    record {
      report = report_verdict s.words.now area_limit s.question _ _ c.in_ok-call_fault.ensures refl k.0;
      checked = k.1;
    }
