use native.Mathlib.Omega.{arith}
use Rattle.printing.proofs.Laws.{put_two}
use Rattle.printing.proofs.wording.put_line.Goals as goal

pub returns : goal.returns
returns c =
    record {
      put = put_two c.put_labelled-a.ensures.put c.put.ensures;
      upper_bound = omega (arith, c.put_labelled-a.ensures.upper_bound, c.put.ensures.next);
    }
