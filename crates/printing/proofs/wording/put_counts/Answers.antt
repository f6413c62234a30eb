use Rattle.printing.proofs.Laws.{put_two}
use Rattle.printing.proofs.wording.put_counts.Goals as goal

pub returns : goal.returns
returns c =
    put_two c.put-a.ensures (put_two c.put_first_lines-b.ensures.put (put_two c.put_last_lines-c.ensures.put c.put_line.ensures.put))
