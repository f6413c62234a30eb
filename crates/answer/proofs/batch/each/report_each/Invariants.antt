use Prim.Native.Nat.{◌≤◌}
use mathlib.Core.Path.{◌≡◌}
use lib.ListN.{length}
use Rattle.snapshot.specs.Limits.{area_limit}
use Rattle.accept.specs.Post.{Judged}
use Rattle.answer.proofs.batch.Laws.{Reported}
use Rattle.answer.proofs.batch.each.report_each.Given as goal

abbrev pub invariant-loop-i : goal.invariant-loop-i
invariant-loop-i l =
    (l.i ≤ l.n) × Judged l.words l.area l.c × (length l.area ≡ area_limit) × (length l.reports ≡ length l.initial.reports)
    × Reported l.words l.questions l.initial.reports l.i l.reports
