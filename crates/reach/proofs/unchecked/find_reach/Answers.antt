use mathlib.Core.Path.{◌≡◌, ap}
use Rattle.std.proofs.Common.{rules}
use Rattle.snapshot.specs.Limits.{area_limit}
use Rattle.reach.specs.parts.Reach.{reach_of, told}
use Rattle.reach.proofs.unchecked.Laws.{reaches_by}
use Rattle.reach.proofs.unchecked.find_reach.Goals as goal

pub returns : goal.returns
returns c =
    let s = c.args in
    let f = c.in_front.ensures in
    reaches_by s.words.now s.area.now s.v _ c.in_front.new.area f.cleared (λ h. ap told (f.small h))
    (λ h. let d = f.done h in let k : told c.in_front.result ≡ reach_of s.words.now area_limit s.v = search rules in k)
