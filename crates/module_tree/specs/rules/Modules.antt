-- Modules, maps and crates of a snapshot (lib.rs). "+1" means number plus one, 0 for none.
use Rattle.std.specs.Prelude.{ℕ, zero, suc, ◌+◌, List, [], ◌∷◌, Bool, true, false, ◌&&◌, not, eqb, get_or}
use Rattle.snapshot.specs.Records.{Snapshot, Map, Module}

-- the place of the first element that passes the test, in a list whose first place is k
unfoldable pub place_of : {A : Type 0} → (A → Bool) → ℕ → List A → ℕ
place_of p k [] = k
place_of p k (x ∷ xs) = elim (p x) [ true ↦ k | false ↦ place_of p (k + 1) xs ]

unfoldable pub module_of : Snapshot → ℕ → Module
module_of s m = get_or s.modules m (record { map = 0; parent = 0 })

unfoldable pub map_of : Snapshot → ℕ → Map
map_of s k = get_or s.maps k (record { crate = 0; block = 0; no_std = 0 })

-- `ModuleId::def_map`
abbrev pub map_no : Snapshot → ℕ → ℕ
map_no s m = (module_of s m).map

-- `ModuleId::krate`
abbrev pub crate_of : Snapshot → ℕ → ℕ
crate_of s m = (map_of s (map_no s m)).crate

-- the parent module +1, in the module's own map
abbrev pub parent_of : Snapshot → ℕ → ℕ
parent_of s m = (module_of s m).parent

-- the parent module +1 of the block that the module's map belongs to; 0 in a crate's own map
abbrev pub block_of : Snapshot → ℕ → ℕ
block_of s m = (map_of s (map_no s m)).block

abbrev pub in_block : Snapshot → ℕ → Bool
in_block s m = not (eqb (block_of s m) 0)

-- the root of a map: its first module
unfoldable pub root_of : Snapshot → ℕ → ℕ
root_of s k = place_of (λ x. eqb x.map k) 0 s.modules

-- a crate's own map
unfoldable pub own_map : Snapshot → ℕ → ℕ
own_map s c = place_of (λ x. eqb x.crate c && eqb x.block 0) 0 s.maps

-- `DefMap::crate_root` of a module's map
unfoldable pub crate_root : Snapshot → ℕ → ℕ
crate_root s m = root_of s (own_map s (crate_of s m))

-- `ModuleId::containing_module`, +1: the parent, and from a map's root the block's parent
unfoldable pub or_else : ℕ → ℕ → ℕ
or_else zero b = b
or_else (suc p) b = suc p

unfoldable pub containing : Snapshot → ℕ → ℕ
containing s m = or_else (parent_of s m) (block_of s m)
