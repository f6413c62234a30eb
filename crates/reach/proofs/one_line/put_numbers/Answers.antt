use Prim.Native.Nat.{◌+◌}
use mathlib.Core.Path.{refl, ◌∙◌}
use native.Mathlib.Omega.{arith}
use Rattle.printing.proofs.Laws.{put_as, put_two, put_none}
use Rattle.reach.proofs.one_line.Laws.{rest_one, rest_length, rest_slice, rest_done}
use Rattle.reach.proofs.one_line.put_numbers.Goals as goal

pub loop-n-init : goal.loop-n-init
loop-n-init c = (omega arith, refl, put_as (rest_one _) (put_none _ _), omega arith)

pub put-at-requires : goal.put-at-requires
put-at-requires c =
    let z = rest_length c.args.numbers.now in
    omega (arith, c.loop-n.invariant.1, c.loop-n.invariant.3, c.put_number-to.ensures.upper_bound, c.put_number-to.auto.out, c.requires)

pub put_number-to-requires-in-loop-n : goal.put_number-to-requires-in-loop-n
put_number-to-requires-in-loop-n c =
    let z = rest_length c.args.numbers.now in
    omega (
      arith,
      c.put-at.ensures.next,
      c.put-at.auto.out,
      c.loop-n.invariant.1,
      c.loop-n.invariant.3,
      c.put_number-to.ensures.upper_bound,
      c.put_number-to.auto.out,
      c.requires,
    )

pub loop-n-preserved : goal.loop-n-preserved
loop-n-preserved c =
    let l = c.loop-n in
    let z = rest_length c.args.numbers.now in (
      omega arith,
      c.put_number-to-in-loop-n.auto.out ∙ c.put-at.auto.out ∙ l.invariant.1,
      put_as (rest_slice c.args.numbers.now l.n-index (omega arith) refl)
          (put_two l.invariant.2 (put_two c.put-at.ensures c.put_number-to-in-loop-n.ensures.put)),
      omega (arith, l.invariant.3, c.put-at.ensures.next, c.put_number-to-in-loop-n.ensures.upper_bound),
    )

pub returns : goal.returns
returns c =
    let l = c.loop-n in
    let p = c.put_number-to.ensures in
    let z = rest_length c.args.numbers.now in
    record {
      put = put_as (rest_done c.args.numbers.now (l.n-index + 1) (omega arith) (omega (arith, c.requires)) (omega arith))
          (put_two p.put l.invariant.2);
      upper_bound = omega (arith, c.requires, l.invariant.0, l.invariant.3, p.upper_bound);
    }
