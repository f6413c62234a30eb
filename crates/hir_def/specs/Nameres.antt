-- What the search asks of nameres.rs: the modules around a module, preludes and externs; and of the crate graph.
use Rattle.std.specs.Prelude.{ℕ, zero, suc, List, [], ◌∷◌, ◌++◌, reverse, Bool, true, false, ◌&&◌, not, eqb}
use Rattle.std.specs.Prelude.{Option, None, Some}
use Rattle.snapshot.specs.Lists.{any}
use Rattle.snapshot.specs.Records.{Snapshot, Scope, Prelude, Extern, Dependency, Child}
use Rattle.hir_def.specs.Finds.{first_of, first_some, select}
use Rattle.hir_def.specs.Items.{types, block_of, containing, crate_data, item_of, same_item, module_item}
use Rattle.hir_def.specs.ItemScope.{counts, names_of, preferred, get}
use Rattle.hir_def.specs.declared.Item.{Item}

-- The modules that steps (to a number +1) reach from m. The numbers fall, so m steps are enough.
unfoldable pub steps_or : (ℕ → List ℕ) → ℕ → List ℕ
steps_or rec zero = []
steps_or rec (suc p) = p ∷ rec p

unfoldable pub steps_to : (ℕ → ℕ) → ℕ → ℕ → List ℕ
steps_to step zero m = []
steps_to step (suc d) m = steps_or (steps_to step d) (step m)

unfoldable pub steps : (ℕ → ℕ) → ℕ → List ℕ
steps step m = steps_to step m m

-- `with_ancestor_maps` tries these in order: the module, then the parent of each enclosing block
unfoldable pub ancestor_maps : Snapshot → ℕ → List ℕ
ancestor_maps s m = m ∷ steps (block_of s) m

-- the item's entry in one scope: the first that counts, by options bit 32 the first of these that isn't deprecated, if there is one
abbrev pub entry_in : Snapshot → Item → Bool → Bool → ℕ → Option Scope
entry_in s item declared_only fresh a = preferred fresh s a item (counts declared_only) (names_of s a item (counts declared_only))

-- the item's entry in the module, or around its blocks; only entries declared there where these alone count
unfoldable pub scope_entry : Snapshot → ℕ → Item → Bool → Bool → Option Scope
scope_entry s m item declared_only fresh = first_some (entry_in s item declared_only fresh) (ancestor_maps s m)

-- the first entry with that namespace and name in the module, or around its blocks
unfoldable pub entry_named : Snapshot → ℕ → ℕ → ℕ → Option Scope
entry_named s m ns name = first_some (λ a. get s a ns name) (ancestor_maps s m)

-- the entry stands for something else than the module
unfoldable pub is_other : Snapshot → ℕ → Option Scope → Bool
is_other s m None = false
is_other s m (Some e) = not (same_item (item_of s e.ns e.definition) (module_item m))

-- the name is another thing's than the module m's in types, in the module `from` or around its blocks
unfoldable pub occupied : Snapshot → ℕ → ℕ → ℕ → Bool
occupied s from m name = any (λ a. is_other s m (get s a types name)) (ancestor_maps s from)

-- the containing modules, nearest first
unfoldable pub containers : Snapshot → ℕ → List ℕ
containers s m = steps (containing s) m

-- the child records of a module
unfoldable pub children_of : Snapshot → ℕ → List Child
children_of s m = select (λ c. eqb c.owner m) s.children

-- `DefMap::prelude`
unfoldable pub prelude_of : Snapshot → ℕ → Option Prelude
prelude_of s k = first_of (λ p. eqb p.map k) s.preludes

-- an extern of the crate c that names the module m
abbrev pub is_extern : ℕ → ℕ → Extern → Bool
is_extern c m e = eqb e.owner c && eqb e.target m

-- The first extern of the crate c, read backwards, that names the module m.
unfoldable pub extern_of : Snapshot → ℕ → ℕ → Option Extern
extern_of s c m = first_of (is_extern c m) (reverse s.externs)

abbrev pub is_dependency : ℕ → Dependency → Bool
is_dependency c d = eqb d.owner c

-- the dependencies of a crate
unfoldable pub dependencies_of : Snapshot → ℕ → List Dependency
dependencies_of s c = select (is_dependency c) s.dependencies

abbrev pub is_sysroot : Dependency → Bool
is_sysroot d = eqb d.sysroot 1

-- in the sysroot, with that origin
abbrev pub is_lang_sysroot : Snapshot → ℕ → Dependency → Bool
is_lang_sysroot s lang d = is_sysroot d && eqb (crate_data s d.crate).origin lang

-- the first sysroot dependency of that origin
unfoldable pub lang_of : Snapshot → ℕ → ℕ → Option Dependency
lang_of s c lang = first_of (is_lang_sysroot s lang) (dependencies_of s c)

-- sysroot dependencies first
unfoldable pub sysroot_first : Snapshot → ℕ → List Dependency
sysroot_first s c = select is_sysroot (dependencies_of s c) ++ select (λ d. not (is_sysroot d)) (dependencies_of s c)

-- a dependency of the crate, in the sysroot or not
abbrev pub by_sysroot : ℕ → Bool → Dependency → Bool
by_sysroot c true d = is_dependency c d && is_sysroot d
by_sysroot c false d = is_dependency c d && not (is_sysroot d)
