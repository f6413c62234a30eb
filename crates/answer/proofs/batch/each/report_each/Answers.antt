use Prim.Native.Nat.{◌-◌, ◌*◌}
use mathlib.Core.Path.{refl, ◌∙◌}
use native.Mathlib.Omega.{arith}
use borrow.Rule.Slice.PartMut.{same_len_mid}
use lib.ListN.{length}
use Rattle.reports.specs.Written.{report_size}
use Rattle.answer.proofs.batch.Laws.{none_reported, one_more_lem, all_reported}
use Rattle.answer.proofs.batch.each.report_each.Goals as goal

pub loop-i-init : goal.loop-i-init
loop-i-init c =
    (omega arith, c.requires.0, c.told-area, refl, none_reported c.args.words.now c.args.questions.now c.args.reports.now)

pub loop-i-preserved : goal.loop-i-preserved
loop-i-preserved c =
    let l = c.loop-i in
    let k = same_len_mid (report_size * l.i) (length l.reports - report_size * l.i) l.reports c.write_report.new.out
    c.write_report.auto.out in (
      omega (arith, c.loop-i-test.true),
      c.report_on-r.ensures.checked,
      c.report_on-r.array_long,
      k ∙ l.invariant.3,
      one_more_lem c.args.words.now c.args.questions.now c.args.reports.now l.i l.reports l.invariant.4 _ _
          c.question_of.ensures c.report_on-r.ensures.report l.invariant.3 (omega (arith, c.loop-i-test.true, c.requires.1))
          _ _ c.write_report.ensures c.write_report.auto.out,
    )

pub returns : goal.returns
returns c = let l = c.loop-i in
    record {
      reports_after = all_reported c.args.words.now c.args.questions.now c.args.reports.now l.i l.reports l.invariant.4 _
          l.invariant.0 c.loop-i-test.false;
      judged = l.invariant.1;
    }
