use mathlib.Core.Path.{ap}
use lib.Dec.{eqb}
use Rattle.printer.proofs.questions.is_argument.Goals as goal

pub returns : goal.returns
returns c = ap (λ k. eqb k 0) c.kind.ensures
