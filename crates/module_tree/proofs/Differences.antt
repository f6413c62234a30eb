-- The smallest snapshot where the walk and privacy differ (`Examples.antt` of `tree_rules`).
use mathlib.Core.Path.{◌≡◌, refl}
use mathlib.Core.Bool.{true}
use lib.Dec.{lit<}
use Rattle.module_tree.specs.rules.Modules.{module_of, map_of, or_else, containing}
use Rattle.module_tree.specs.rules.Visibility.{last_or, last_to, last, met_or, met_to, met, unless, climb_step, climb, in_module, is_visible_from}
use Rattle.module_tree.specs.Privacy.{Privacy}
use Rattle.module_tree.specs.Differs.{Differs}
use Rattle.module_tree.specs.rules.Privately.{of_root, block_step, module_around, privately}
use Rattle.module_tree.specs.rules.Examples.{smallest, smallest_snapshot, smallest_accepted}
use Rattle.module_tree.proofs.Privately.{not_private, differs_is}

-- The walk says that f is visible from the crate's root,
pub smallest_walk : is_visible_from smallest_snapshot 3 2 0 ≡ true
unfolding module_of map_of last_or last_to last met_or met_to met or_else containing unless climb_step climb in_module is_visible_from
smallest_walk = refl

-- and the Reference says that it is not:
pub smallest_private : Privacy smallest_snapshot 3 2 0 → ⊥
unfolding module_of map_of last_or last_to last met_or met_to met or_else containing unless climb_step climb in_module of_root block_step
    module_around privately
smallest_private = not_private smallest smallest_snapshot smallest_accepted 0 2 (lit< tt) (lit< tt) refl

-- the condition holds.
pub smallest_differs : Differs smallest_snapshot 0 2
unfolding module_of map_of last_or last_to last met_or met_to met or_else containing unless climb_step climb in_module of_root block_step
    module_around privately
smallest_differs = (differs_is smallest smallest_snapshot smallest_accepted 0 2 (lit< tt) (lit< tt)).1 (refl, refl)
