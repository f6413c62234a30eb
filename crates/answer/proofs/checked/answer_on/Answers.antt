use mathlib.Core.Path.{refl}
use Rattle.check_rules.proofs.Exits.{err_is}
use Rattle.module_tree.proofs.Reading.{length_modules}
use Rattle.snapshot.specs.Limits.{area_limit}
use Rattle.snapshot.specs.Layouts.{snap_of}
use Rattle.snapshot.proofs.Laws.{refusal_some}
use Rattle.answer.proofs.checked.Laws.{fault_free, fault_known, definitions_count, answer_fault, answer_found}
use Rattle.answer.proofs.checked.answer_on.Goals as goal

pub returns-in_err-question_fault : goal.returns-in_err-question_fault
returns-in_err-question_fault c =
    let w = c.args.records.now in
    let A = c.args.area.now in
    let q = c.args.question in
    rw (err_is _ _ c.from_residual.ensures.1) (record {
      value = answer_fault (snap_of w.words.now A w.layout) q.query q.fuel _ _ (c.in_err-question_fault.ensures A) (refusal_some _) refl;
      area_unchanged = refl;
    })

pub report_in-requires : goal.report_in-requires
report_in-requires c =
    let W = c.args.records.now.words.now in
    let A = c.args.area.now in
    let l = c.args.records.now.layout in
    let q = c.args.question in
    let f = fault_free area_limit q.query q.fuel c.requires.1 in
    let k = fault_known (snap_of W A l) q.query l.definitions l.modules (definitions_count W A l) (length_modules W A l)
    (c.in_ok-question_fault.ensures A) in (
      c.requires.0,
      k.0,
      k.1,
      f.2,
      f.1,
      f.3,
      f.4,
    )

pub returns : goal.returns
returns c =
    let w = c.args.records.now in
    let A = c.args.area.now in
    let q = c.args.question in
    let f = c.report_in.ensures in
    record {
      value = answer_found (snap_of w.words.now A w.layout) q.query q.fuel _ _ (c.in_ok-question_fault.ensures A) refl f.value;
      area_unchanged = f.area_unchanged;
    }
