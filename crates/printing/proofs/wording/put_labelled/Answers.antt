use native.Mathlib.Omega.{arith}
use Rattle.printing.proofs.Laws.{put_two, length_decimal}
use Rattle.printing.proofs.wording.put_labelled.Goals as goal

pub returns : goal.returns
returns c = let h = length_decimal 20 c.args.n in
    record { put = put_two c.put-a.ensures c.put_digits.ensures; upper_bound = omega (arith, c.put-a.ensures.next, c.put_digits.ensures.next) }
