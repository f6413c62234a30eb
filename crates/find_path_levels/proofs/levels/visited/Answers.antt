use Rattle.std.proofs.Common.{rules}
use Rattle.find_path_spec.specs.Walk.{has, visited}
use Rattle.find_path_levels.proofs.Each.{any_taken}
use Rattle.find_path_levels.proofs.levels.visited.Goals as goal

pub returns : goal.returns
unfolding visited
returns c =
    any_taken _ c.args.area.now c.args.sought.item c.args.sought.small c.code_of-code.ensures.0 (λ ns. has ns c.args.m.0)
    (λ p b q. search rules) _ _ _ c.any_level.ensures
