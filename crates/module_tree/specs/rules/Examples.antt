-- Small snapshots, as words: antt runs the verdict, the walk and the test of privacy on them. proofs/Differences.antt says more
-- of the smallest.
use Rattle.std.specs.Prelude.{◌≡◌, refl, List, [], ◌∷◌, Bool, true, false, ℕ}
use Rattle.snapshot.specs.Lists.{rows, any, all}
use Rattle.snapshot.specs.Words.{arguments_of}
use Rattle.snapshot.specs.Records.{Snapshot, Map, Module}
use Rattle.check_rules.specs.Steps.{crate_step, map_step, module_step}
use Rattle.check_rules.specs.Verdict.{arguments_from, record_step, step_at, finish, records, verdict, accept}
use Rattle.module_tree.specs.rules.Modules.{module_of, map_of, or_else, containing}
use Rattle.module_tree.specs.rules.Visibility.{last_or, last_to, last, met_or, met_to, met, unless, climb_step, climb, in_module, is_visible_from}
use Rattle.module_tree.specs.rules.Privately.{of_root, block_step, module_around, privately}

-- a map of crate 0 with the block's parent +1, and a module with its map and its parent +1

abbrev pub a_map : ℕ → Map
a_map b = record { crate = 0; block = b; no_std = 0 }

abbrev pub a_module : ℕ → ℕ → Module
a_module k p = record { map = k; parent = p }

-- maps and modules of one ordinary crate
abbrev pub one_crate : List Map → List Module → Snapshot
one_crate ms xs =
    record {
      names = [];
      crates = record { origin = 0; no_std = 0; edition = 2021 } ∷ [];
      dependencies = [];
      maps = ms;
      modules = xs;
      children = [];
      preludes = [];
      definitions = [];
      scopes = [];
      imports = [];
      externs = [];
      members = [];
    }

-- what the two say of a viewer and a target
abbrev pub Both : Type 0
Both = record { walk : Bool; privacy : Bool }

unfoldable pub asked : Snapshot → ℕ → ℕ → Both
asked s v t = record { walk = in_module s v t; privacy = privately s v t }

-- struct S; fn o() { mod m { impl crate::S { fn f(&self) {} } } } fn main() { S.f() }
-- 0 is the crate's root, 1 the root of o's block, 2 is m. f is private in m, and main stands in 0. Three modules is the least
-- (`differs-needs-three`).
abbrev pub smallest : List ℕ
smallest =
    0x20000000 ∷ 2021 ∷ 0x40000000 ∷ 0 ∷ 0 ∷ 0x50000000 ∷ 0 ∷ 0x40000000 ∷ 1 ∷ 0 ∷ 0x50000001 ∷ 0 ∷ 0x50000001 ∷ 2 ∷ []

abbrev pub smallest_snapshot : Snapshot
smallest_snapshot = one_crate (a_map 0 ∷ a_map 1 ∷ []) (a_module 0 0 ∷ a_module 1 0 ∷ a_module 1 2 ∷ [])

pub smallest_accepted : verdict smallest ≡ accept smallest_snapshot
unfolding verdict records step_at record_step finish arguments_from arguments_of crate_step map_step module_step rows any all
smallest_accepted = refl

-- The walk says that f is visible from the crate's root, and privacy that it is not.
pub smallest_answers : asked smallest_snapshot 0 2 ≡ record { walk = true; privacy = false }
unfolding module_of map_of last_or last_to last met_or met_to met or_else containing unless climb_step climb in_module of_root block_step
    module_around privately asked
smallest_answers = refl

-- fn o() { mod m { fn f() {} } { fn g() {} HERE } }
-- 3 is the root of the inner block, HERE.
abbrev pub outside : List ℕ
outside =
    0x20000000 ∷ 2021 ∷ 0x40000000 ∷ 0 ∷ 0 ∷ 0x50000000 ∷ 0 ∷ 0x40000000 ∷ 1 ∷ 0 ∷ 0x50000001 ∷ 0 ∷ 0x50000001 ∷ 2 ∷ 0x40000000 ∷ 2
    ∷ 0 ∷ 0x50000002 ∷ 0 ∷ []

abbrev pub outside_snapshot : Snapshot
outside_snapshot = one_crate (a_map 0 ∷ a_map 1 ∷ a_map 2 ∷ []) (a_module 0 0 ∷ a_module 1 0 ∷ a_module 1 2 ∷ a_module 2 0 ∷ [])

pub outside_accepted : verdict outside ≡ accept outside_snapshot
unfolding verdict records step_at record_step finish arguments_from arguments_of crate_step map_step module_step rows any all
outside_accepted = refl

-- From HERE and from the crate's root the walk sees f, and the Reference does not. From o's block neither does: the climb stops
-- in the viewer's map. In m both do.
pub outside_answers : asked outside_snapshot 3 2 ∷ asked outside_snapshot 0 2 ∷ asked outside_snapshot 1 2 ∷ asked outside_snapshot 2 2 ∷ []
    ≡ record { walk = true; privacy = false } ∷ record { walk = true; privacy = false } ∷ record { walk = false; privacy = false }
    ∷ record { walk = true; privacy = true } ∷ []
unfolding module_of map_of last_or last_to last met_or met_to met or_else containing unless climb_step climb in_module of_root block_step
    module_around privately asked
outside_answers = refl

-- fn o() { mod m { fn f() { impl super::S { fn h() {} } } } { fn g() {} HERE } }
-- h is private in the root 3 of f's block, which stands in m; HERE is 4. Also a block's root can be where they differ.
abbrev pub deeper : List ℕ
deeper =
    0x20000000 ∷ 2021 ∷ 0x40000000 ∷ 0 ∷ 0 ∷ 0x50000000 ∷ 0 ∷ 0x40000000 ∷ 1 ∷ 0 ∷ 0x50000001 ∷ 0 ∷ 0x50000001 ∷ 2 ∷ 0x40000000 ∷ 3
    ∷ 0 ∷ 0x50000002 ∷ 0 ∷ 0x40000000 ∷ 2 ∷ 0 ∷ 0x50000003 ∷ 0 ∷ []

abbrev pub deeper_snapshot : Snapshot
deeper_snapshot =
    one_crate (a_map 0 ∷ a_map 1 ∷ a_map 3 ∷ a_map 2 ∷ []) (a_module 0 0 ∷ a_module 1 0 ∷ a_module 1 2 ∷ a_module 2 0 ∷ a_module 3 0 ∷ [])

pub deeper_accepted : verdict deeper ≡ accept deeper_snapshot
unfolding verdict records step_at record_step finish arguments_from arguments_of crate_step map_step module_step rows any all
deeper_accepted = refl

pub deeper_answers : asked deeper_snapshot 4 3 ≡ record { walk = true; privacy = false }
unfolding module_of map_of last_or last_to last met_or met_to met or_else containing unless climb_step climb in_module of_root block_step
    module_around privately asked
deeper_answers = refl

-- mod a { fn o() { { { HERE } } } }
-- 0 is the crate's root, 1 is a, and 2, 3, 4 are three blocks, one in the other.
abbrev pub nested : List ℕ
nested =
    0x20000000 ∷ 2021 ∷ 0x40000000 ∷ 0 ∷ 0 ∷ 0x50000000 ∷ 0 ∷ 0x50000000 ∷ 1 ∷ 0x40000000 ∷ 2 ∷ 0 ∷ 0x50000001 ∷ 0 ∷ 0x40000000 ∷ 3
    ∷ 0 ∷ 0x50000002 ∷ 0 ∷ 0x40000000 ∷ 4 ∷ 0 ∷ 0x50000003 ∷ 0 ∷ []

abbrev pub nested_snapshot : Snapshot
nested_snapshot =
    one_crate (a_map 0 ∷ a_map 2 ∷ a_map 3 ∷ a_map 4 ∷ []) (a_module 0 0 ∷ a_module 0 1 ∷ a_module 1 0 ∷ a_module 2 0 ∷ a_module 3 0 ∷ [])

pub nested_accepted : verdict nested ≡ accept nested_snapshot
unfolding verdict records step_at record_step finish arguments_from arguments_of crate_step map_step module_step rows any all
nested_accepted = refl

-- From the innermost block to the outermost one, from a to the innermost one, and from the crate's root, which sees nothing of a's:
-- no `mod` is written inside a block, so they agree.
pub nested_answers : asked nested_snapshot 4 2 ∷ asked nested_snapshot 1 4 ∷ asked nested_snapshot 0 4 ∷ []
    ≡ record { walk = true; privacy = true } ∷ record { walk = true; privacy = true } ∷ record { walk = false; privacy = false } ∷ []
unfolding module_of map_of last_or last_to last met_or met_to met or_else containing unless climb_step climb in_module of_root block_step
    module_around privately asked
nested_answers = refl

-- Of visibility 1, a crate's: seen from the crate's root, crate 0's is visible, and another crate's is not.
pub crate_answers : is_visible_from nested_snapshot 1 0 0 ∷ is_visible_from nested_snapshot 1 1 0 ∷ [] ≡ true ∷ false ∷ []
unfolding module_of map_of is_visible_from
crate_answers = refl
