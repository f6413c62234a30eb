use Rattle.nameable.specs.Breadth.{shortest_of}
use Rattle.told_paths.proofs.shortest_paths.shortest.shortest_of.Goals as goal

pub returns : goal.returns
unfolding shortest_of
returns c =
    c.shorter.ensures _ _ c.arrival_told-near.ensures.value c.enum_told-by.ensures
