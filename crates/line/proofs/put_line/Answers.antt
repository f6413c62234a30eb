use Rattle.printing.proofs.Laws.{put_two}
use Rattle.line.proofs.put_line.Goals as goal

pub returns : goal.returns
returns c = put_two c.put_bare-a.ensures.put c.put.ensures
