use Prim.Native.Nat.{◌-◌, ◌≤◌}
use mathlib.Core.Path.{◌≡◌}
use lib.ListN.{length}
use Rattle.printer.specs.Printed.{questions_at, first_from}
use Rattle.printer.proofs.questions.first_question.Given as goal

abbrev pub invariant-loop-i : goal.invariant-loop-i
invariant-loop-i l = (l.i ≤ length l.words) × (questions_at l.words ≡ first_from l.words l.i (length l.words - l.i))
