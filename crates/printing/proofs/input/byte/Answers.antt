use native.Mathlib.Omega.{arith}
use Rattle.snapshot.proofs.Laws.{past}
use Rattle.printing.proofs.input.byte.Goals as goal

pub returns-else-i-bytes : goal.returns-else-i-bytes
returns-else-i-bytes c = (past c.args.bytes.now _ c.if-i-bytes.false, omega arith)
