use native.Mathlib.Omega.{arith}
use Rattle.find_path_levels.proofs.Stacks.{chain_none}
use Rattle.find_path_levels.proofs.walk_once.Walking.{kept_walk}
use Rattle.find_path_levels.proofs.walk_once.take_walk.Goals as goal

pub find_local_import_locations-n-requires : goal.find_local_import_locations-n-requires
find_local_import_locations-n-requires c =
    (c.requires.0, c.requires.1, omega arith, omega (arith, c.told-area), chain_none c.args.area.now 0 7616)

pub returns : goal.returns
returns c =
    kept_walk c.args.records.now.words.now c.args.area.now c.args.records.now.layout c.args.from.0 c.args.sought.item c.told-area _ _
    c.find_local_import_locations-n.auto.area c.find_local_import_locations-n.ensures
