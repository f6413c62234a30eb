use Rattle.record_index.proofs.Halving.{put_first, put_second}
use Rattle.record_index.proofs.halves.put_half.Goals as goal

pub returns-then-i-eq0 : goal.returns-then-i-eq0
returns-then-i-eq0 c = put_first c.args.area.now c.args.i c.args.v c.requires.0 c.requires.1 c.requires.2 c.word-w.ensures c.if-i-eq0.true

pub returns : goal.returns
returns c = put_second c.args.area.now c.args.i c.args.v c.requires.0 c.requires.1 c.requires.2 c.word-w.ensures (λ e. c.if-i-eq0.false e)
