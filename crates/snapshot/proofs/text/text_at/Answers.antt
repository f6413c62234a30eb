use mathlib.Core.Path.{ap, ◌∙◌}
use Rattle.snapshot.specs.reading.Words.{words_of}
use Rattle.snapshot.proofs.Laws.{text_none, text_cut, text_whole}
use Rattle.snapshot.proofs.text.text_at.Goals as goal

pub returns-then-words-head : goal.returns-then-words-head
returns-then-words-head c = text_none c.before.before.before.args.words.now _ c.if-words-head.true

pub returns-then-words-a : goal.returns-then-words-a
returns-then-words-a c =
    text_cut c.args.words.now c.args.head _ (c.text_words-n.ensures
    ∙ ap words_of c.payload.ensures) c.if-words-a.true

pub returns : goal.returns
returns c =
    text_whole c.args.words.now c.args.head _ (c.text_words-n.ensures
    ∙ ap words_of c.payload.ensures)
