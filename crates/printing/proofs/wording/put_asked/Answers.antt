use Rattle.printing.proofs.Laws.{put_two}
use Rattle.printing.proofs.wording.put_asked.Goals as goal

pub returns : goal.returns
returns c =
    put_two c.put_line-a.ensures.put c.put.ensures
