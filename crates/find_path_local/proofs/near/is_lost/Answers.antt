use native.Mathlib.Omega.{arith}
use Rattle.snapshot.specs.Laid.{snap_by}
use Rattle.find_path_spec.proofs.laws.Near.{far_nothing}
use Rattle.find_path_levels.specs.Levels.{levels_of}
use Rattle.find_path_local.proofs.near.is_lost.Goals as goal

pub is_far-requires : goal.is_far-requires
is_far-requires c = (omega (arith, c.if-left-lt-LEFT.false), c.requires.0, c.requires.1)

pub returns : goal.returns
returns c =
    let s = c.args.s in
    let A = c.args.area.now in (
      c.is_far.ensures.0,
      λ e. far_nothing (snap_by c.args.records.now A) c.args.x c.args.left (levels_of A s.place s.depth) c.args.m.0 (c.is_far.ensures.1 e),
    )
