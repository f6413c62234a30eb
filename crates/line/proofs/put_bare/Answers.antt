use native.Mathlib.Omega.{arith}
use Rattle.line.proofs.Laws.{line_whole}
use Rattle.printing.proofs.Laws.{put_as, put_two}
use Rattle.accept.specs.Opened.{snap_in}
use Rattle.line.proofs.put_bare.Goals as goal

pub returns : goal.returns
returns c = let s = c.args in
    let o = c.put_outcome-a.ensures in
    let m = c.put_meter.ensures in record {
      put = put_as (line_whole (snap_in s.db.now) s.from.0 s.r
          c.edition_in-edition.ensures) (put_two o.put m.put);
      upper_bound = omega (arith, o.upper_bound, m.upper_bound);
    }
