use Rattle.find_path_local.proofs.distances.Marking.{mark_set}
use native.Mathlib.Omega.{arith}
use Rattle.find_path_local.proofs.distances.mark.Goals as goal

pub returns : goal.returns
returns c =
    mark_set c.args.area.now c.args.m.0 c.told-area c.requires c.word.ensures (λ h. omega (arith, c.if-word-le1.false, h))
