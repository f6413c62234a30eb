use native.Mathlib.Omega.{arith}
use Rattle.snapshot.specs.Layouts.{snap_of}
use Rattle.find_path_local.proofs.distances.Relaxing.{turned_here, turned_past, far_left}
use Rattle.find_path_local.proofs.distances.relax_at.Goals as goal

pub relax_scope-requires : goal.relax_scope-requires
relax_scope-requires c = (c.requires.0, c.requires.1, omega arith, omega (arith, c.requires.3), c.requires.4)

pub returns-then-w-d : goal.returns-then-w-d
returns-then-w-d c =
    record {
      turned =
          turned_here (snap_of c.args.records.now.words.now c.args.area.now c.args.records.now.layout) c.args.x c.args.area.now c.args.m.0 c.args.d
          c.word-w.ensures c.if-w-d.true c.relax_scope.ensures.steps.0 c.relax_scope.ensures.steps.1;
      misses = c.relax_scope.ensures.misses;
    }

pub returns : goal.returns
returns c =
    record {
      turned =
          turned_past (snap_of c.args.records.now.words.now c.args.area.now c.args.records.now.layout) c.args.x c.args.area.now c.args.m.0 c.args.d
          c.word-w.ensures c.if-w-d.false (far_left c.args.d c.word-w.result);
      misses = c.requires.4;
    }
