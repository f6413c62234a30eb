use Rattle.streams.proofs.case_text.Laws.{stored_room, stored_full}
use Rattle.streams.proofs.case_text.words.put.Goals as goal

pub returns-then-n-words : goal.returns-then-n-words
returns-then-n-words c = stored_room _ _ _ c.ranges.w.fits c.if-n-words.true

pub returns : goal.returns
returns c = stored_full _ _ _ c.if-n-words.false
