use mathlib.Core.Path.{◌∙◌}
use Rattle.line.proofs.Laws.{first_byte, second_byte, third_byte}
use Rattle.line.proofs.text.text_byte.Goals as goal

pub returns-then-i-eq0 : goal.returns-then-i-eq0
returns-then-i-eq0 c = c.narrow.ensures ∙ first_byte c.args.text.now c.args.i _
    c.word-w.ensures c.if-i-eq0.true

pub returns-then-i-eq1 : goal.returns-then-i-eq1
returns-then-i-eq1 c = c.narrow-then-i-eq1.ensures ∙ second_byte c.args.text.now
    c.args.i _ c.word-w.ensures c.if-i-eq1.true

pub returns : goal.returns
returns c =
    c.narrow-2.ensures
    ∙ third_byte c.args.text.now c.args.i _
    c.word-w.ensures c.if-i-eq0.false c.if-i-eq1.false
