use Rattle.printer.proofs.Laws.{too_long, a_rest, no_fault}
use Rattle.printer.proofs.input.input_fault.Goals as goal

pub returns-then-bytes-gt-INPUT : goal.returns-then-bytes-gt-INPUT
returns-then-bytes-gt-INPUT c = too_long _ c.if-bytes-gt-INPUT.true

pub returns-then-bytes-ne0 : goal.returns-then-bytes-ne0
returns-then-bytes-ne0 c = a_rest _ c.if-bytes-gt-INPUT.false c.if-bytes-ne0.true

pub returns : goal.returns
returns c = no_fault _ c.if-bytes-gt-INPUT.false c.if-bytes-ne0.false
