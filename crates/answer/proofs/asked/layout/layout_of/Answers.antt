use Prim.Native.Nat.{◌+◌, ◌-◌, ◌*◌}
use mathlib.Core.Path.{ap}
use lib.ListN.{get_or}
use Rattle.snapshot.specs.Sizes.{member_size}
use Rattle.answer.specs.asked.StillChecked.{layout_with}
use Rattle.answer.proofs.asked.layout.layout_of.Goals as goal

pub returns : goal.returns
returns c =
    let s = c.args in
    ap (λ n. layout_with (s.words - (n + member_size * get_or s.counts.now 13 0)) s.counts.now) c.member_base.ensures
