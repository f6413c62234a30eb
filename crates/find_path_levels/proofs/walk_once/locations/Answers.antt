use native.Mathlib.Omega.{arith}
use Rattle.find_path_levels.proofs.Stacks.{chain_wider}
use Rattle.find_path_levels.proofs.walk_once.Walking.{gathered_copy}
use Rattle.find_path_levels.proofs.walk_once.locations.Goals as goal

pub is_on-requires : goal.is_on-requires
is_on-requires c =
    chain_wider c.args.area.now _ _ c.args.s.top _ (omega (arith, c.requires.3)) c.requires.4

pub returns : goal.returns
returns c =
    gathered_copy c.args.records.now.words.now c.args.area.now c.args.records.now.layout c.args.from.0 c.args.s c.args.sought.item
    c.requires.5 _ c.word-n.ensures c.copy_walk.ensures (c.is_on.ensures c.if-is_on.false)
