use native.Mathlib.Omega.{arith}
use Rattle.printing.proofs.Laws.{put_as, put_two}
use Rattle.printer.proofs.route.Laws.{step_whole}
use Rattle.printer.proofs.route.put_step.Goals as goal

pub returns : goal.returns
returns c = let p4 = c.put_number.ensures in
    let p3 = c.put-c.ensures in
    let p2 = c.put_rule-b.ensures in
    let p1 = c.put-a.ensures
    in record {
      put = put_as (step_whole c.args.step c.of_step.ensures) (put_two p1 (put_two p2.put (put_two p3 p4.put)));
      upper_bound = omega (arith, p1.next, p2.upper_bound, p3.next, p4.upper_bound);
    }
