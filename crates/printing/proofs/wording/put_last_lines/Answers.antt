use native.Mathlib.Omega.{arith}
use Rattle.printing.proofs.Laws.{put_two}
use Rattle.printing.proofs.wording.put_last_lines.Goals as goal

pub returns : goal.returns
returns c = record {
  put = (put_two c.put_line-a.ensures.put
      (put_two c.put_line-b.ensures.put
      (put_two c.put_line-c.ensures.put
      (put_two c.put_line-d.ensures.put (put_two c.put_line-e.ensures.put c.put_line.ensures.put)))));
  upper_bound = omega (
    arith,
    c.put_line-a.ensures.upper_bound,
    c.put_line-b.ensures.upper_bound,
    c.put_line-c.ensures.upper_bound,
    c.put_line-d.ensures.upper_bound,
    c.put_line-e.ensures.upper_bound,
    c.put_line.ensures.upper_bound,
  );
}
