use Rattle.line.proofs.Laws.{refusal_line_lem}
use Rattle.printing.proofs.Laws.{put_as, put_two}
use Rattle.line.proofs.put_refusal.Goals as goal

pub returns : goal.returns
returns c =
    λ s from. put_as (refusal_line_lem s from
    c.args.number)
    (put_two c.put-a.ensures
    (put_two c.put_number-b.ensures.put c.put.ensures))
