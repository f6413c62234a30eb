use Rattle.std.proofs.Common.{arith}
use Rattle.streams.proofs.case_text.Laws.{repeated_few, repeated_past, repeated_star}
use Rattle.streams.proofs.case_text.words.repeat_last.Goals as goal

pub returns-then-n-lt4 : goal.returns-then-n-lt4
returns-then-n-lt4 c = let a = c.args in repeated_few a.words.now a.n 17 (omega arith) c.if-n-lt4.true

pub returns-then-words-n : goal.returns-then-words-n
returns-then-words-n c = let a = c.args in repeated_past a.words.now a.n 17 (omega arith) c.if-n-lt4.false c.if-words-n.true

pub returns : goal.returns
returns c = let a = c.args in repeated_star a.words.now a.n 17 (omega arith) c.if-n-lt4.false c.if-words-n.false _ c.copy_on.ensures
