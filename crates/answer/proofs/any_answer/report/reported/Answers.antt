use native.Mathlib.Omega.{arith}
use Rattle.answer.proofs.any_answer.Laws.{told_longer, told_found}
use Rattle.answer.proofs.any_answer.report.reported.Goals as goal

pub returns-then-t-gt-LIMIT : goal.returns-then-t-gt-LIMIT
returns-then-t-gt-LIMIT c = λ s from ns p e er. told_longer s from ns p e c.if-t-gt-LIMIT.true c.without.ensures

pub returns : goal.returns
returns c = λ s from ns p e er. told_found s from ns p e (omega (arith, c.if-t-gt-LIMIT.false)) c.kind_number.ensures er
