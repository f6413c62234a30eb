use mathlib.Core.Path.{sym, ap}
use mathlib.Core.List.{◌++◌}
use native.Mathlib.Omega.{arith}
use Rattle.printing.proofs.Laws.{put_as, put_two}
use Rattle.line.specs.Joints.{joint_if}
use Rattle.find_path_spec.specs.Line.{written_of}
use Rattle.accept.specs.Opened.{snap_in}
use Rattle.line.proofs.path.put_part.Goals as goal

pub returns-then-joint : goal.returns-then-joint
returns-then-joint c = let s = c.args in
    let p = c.put-to.ensures in
    let q = c.put_name.ensures in record {
      put = put_as (ap (λ b. joint_if b ++ written_of (snap_in s.db.now) s.edition s.n.0)
          (sym c.if-joint.true)) (put_two p q.put);
      upper_bound = omega (arith, p.next, q.upper_bound);
    }

pub returns : goal.returns
returns c = let s = c.args in
    let q = c.put_name-2.ensures in record {
      put = put_as (ap (λ b. joint_if b ++ written_of (snap_in s.db.now) s.edition s.n.0)
          (sym c.if-joint.false)) q.put;
      upper_bound = omega (arith, q.upper_bound);
    }
