use Rattle.streams.proofs.case_text.Laws.{with_digit}
use Rattle.streams.proofs.case_text.words.with_digit.Goals as goal

pub returns : goal.returns
returns c = with_digit c.args.word c.unwrap_or.result c.args.d c.unwrap_or.ensures c.requires
