use Rattle.std.proofs.Common.{arith}
use Rattle.check_snapshot.proofs.Laws.{verdict_same}
use Rattle.check_snapshot.proofs.verdict.verdict.Goals as goal

pub returns : goal.returns
returns c =
    verdict_same _ _ c.check.new.area _ c.check.result c.words_in.ensures.0 c.check.ensures.same c.requires.1 (omega arith) (omega arith)
