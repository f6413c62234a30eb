use Rattle.hir_def.proofs.Fits.{few_words}
use Rattle.answer.proofs.checked.Laws.{reads_of}
use Rattle.answer.proofs.checked.Putting.{few_names}
use Rattle.printer.proofs.route.Laws.{few_steps, routed_refused, routed_accepted}
use Rattle.printer.proofs.route.lines.routed_line_on.Goals as goal

pub invariant_of-records : goal.invariant_of-records
invariant_of-records c =
    record { fits = few_words _ _ _ (reads_of c.args.words.now c.report_on-r.new.area c.args.c c.report_on-r.ensures.checked _ c.in-Ok.is) }

pub invariant_of-db : goal.invariant_of-db
invariant_of-db c = record { reads = reads_of c.args.words.now c.report_on-r.new.area c.args.c c.report_on-r.ensures.checked _ c.in-Ok.is }

pub put_routed-requires : goal.put_routed-requires
put_routed-requires c = (
  c.requires.1,
  few_names c.args.words.now c.args.question c.report_on-r.new.area c.args.c c.report_on-r.result c.report_on-r.ensures,
  few_steps c.args.words.now c.args.question c.report_on-r.new.area c.args.c c.report_on-r.result c.report_on-r.ensures,
)

pub returns-in-Err : goal.returns-in-Err
returns-in-Err c =
    let s = c.args in
    routed_refused s.words.now s.question c.report_on-r.new.area s.c c.report_on-r.result c.report_on-r.ensures _ _ _ _
    c.in-Err.is c.put_refusal.ensures

pub returns-in-Ok : goal.returns-in-Ok
returns-in-Ok c =
    let s = c.args in
    routed_accepted s.words.now s.question c.report_on-r.new.area s.c c.report_on-r.result c.report_on-r.ensures _ _ _ _
    c.in-Ok.is c.put_routed.ensures
