use mathlib.Core.Path.{refl, ◌∙◌}
use native.Mathlib.Omega.{arith}
use Rattle.line.proofs.Laws.{tail_none, tail_next, path_done_all}
use Rattle.printing.proofs.Laws.{put_as, put_two, put_none}
use Rattle.find_path_spec.specs.Line.{written_of}
use Rattle.accept.specs.Opened.{snap_in}
use Rattle.line.proofs.path.put_path.Goals as goal

pub loop-i-init : goal.loop-i-init
loop-i-init c = (omega arith, refl, put_as (tail_none _ _ _) (put_none _ _), omega arith)

pub put_part-to-requires : goal.put_part-to-requires
put_part-to-requires c =
    let l = c.loop-i in omega (
      arith,
      c.requires.room,
      c.requires.count_bound,
      l.invariant.0,
      l.invariant.1,
      l.invariant.3,
      c.loop-i-test.true,
      c.put_prefix-to.ensures.upper_bound,
      c.put_prefix-to.auto.out,
    )

pub loop-i-preserved : goal.loop-i-preserved
loop-i-preserved c =
    let s = c.args in
    let l = c.loop-i in (
      omega arith,
      c.put_part-to.auto.out ∙ l.invariant.1,
      put_as (tail_next (written_of (snap_in s.db.now) s.edition) _ s.names.now l.i refl)
          (put_two l.invariant.2 c.put_part-to.ensures.put),
      omega (arith, l.invariant.3, c.put_part-to.ensures.upper_bound),
    )

pub returns : goal.returns
returns c = let l = c.loop-i in
    let p = c.put_prefix-to.ensures in record {
      put = put_as (path_done_all (written_of (snap_in c.args.db.now) c.args.edition)
          c.args.kind c.args.names.now l.i l.invariant.0 (omega arith))
          (put_two p.put l.invariant.2);
      upper_bound = omega (arith, l.invariant.0, l.invariant.3, p.upper_bound, c.requires.count_bound);
    }
