use Rattle.read_back.proofs.Cases.{looked_types, looked_last}
use Rattle.read_back.proofs.paths.looked_in.Goals as goal

pub returns-then-k-count : goal.returns-then-k-count
returns-then-k-count c = λ f. looked_types _ f _ _ c.if-k-count.true

pub returns : goal.returns
returns c = λ f. looked_last _ f _ _ c.if-k-count.false
