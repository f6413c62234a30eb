use native.Mathlib.Omega.{arith}
use Rattle.printing.proofs.Laws.{put_two}
use Rattle.line.proofs.put_meter.Goals as goal

pub returns : goal.returns
returns c = let p4 = c.put_number.ensures in
    let p3 = c.put-c.ensures in
    let p2 = c.put_number-b.ensures in
    let p1 = c.put-a.ensures
    in
    record { put = put_two p1 (put_two p2.put (put_two p3 p4.put)); upper_bound = omega (arith, p1.next, p2.upper_bound, p3.next, p4.upper_bound) }
