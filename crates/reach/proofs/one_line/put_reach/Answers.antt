use Rattle.check_rules.specs.Verdict.{empty}
use Rattle.printing.proofs.Laws.{put_as, put_two}
use Rattle.reach.proofs.one_line.Laws.{refusal_text, counts_text}
use Rattle.reach.proofs.one_line.put_reach.Goals as goal

pub returns-then-number-ne0 : goal.returns-then-number-ne0
returns-then-number-ne0 c = put_as (refusal_text _ c.args.counts.now c.if-number-ne0.true) (c.put_refusal.ensures empty 0)

pub returns : goal.returns
returns c = put_as (counts_text _ c.args.counts.now c.if-number-ne0.false) (put_two c.put_numbers-a.ensures.put c.put.ensures)
