-- Lookups in a small snapshot, computed: an edit of a definition is told by these rows first.
use Prim.Native.Nat.{ℕ}
use mathlib.Core.Path.{◌≡◌, refl}
use mathlib.Core.Bool.{Bool, true, false}
use mathlib.Core.List.{[], ◌∷◌, map}
use Rattle.std.specs.Prelude.{Option, Some, None}
use Rattle.snapshot.specs.Records.{Snapshot, Scope, Import}
use Rattle.hir_def.specs.Finds.{first_of, reads_of, or_first, select}
use Rattle.hir_def.specs.Items.{module_of, map_of, definition_of, module_item, defined_item, item_of, same_item}
use Rattle.hir_def.specs.ItemScope.{is_for, name_of, names_of, name_reads, names_reads, preferred, preferred_reads, get}
use Rattle.hir_def.specs.Nameres.{steps_or, steps_to, steps, ancestor_maps, extern_of, dependencies_of, sysroot_first}
use Rattle.hir_def.specs.ImportMap.{import_info_for, is_hidden, is_unstable}

-- an entry: its module, namespace, name, definition, whether it was declared there or is deprecated, and its place
pub entry : ℕ → ℕ → ℕ → ℕ → ℕ → ℕ → Scope
entry m ns n d k p =
    record { owner = m; ns = ns; name = n; definition = d; visibility = 0; number = 0; declared = k; bits = 0; place = p }

-- an import: its crate, definition, bits and place
pub import : ℕ → ℕ → ℕ → ℕ → Import
import c d b p = record { owner = c; ns = 0; definition = d; name = 0; container = 0; bits = b; place = p }

-- Definition 0 is the module 1. Definition 1 has a deprecated entry in the module 0, then another there, and one in the module 1; definition 2
-- a deprecated one, and one in values by the name of the first. The module 1 is below 0, and 2 a block in 1. The crate 0 knows one module by two
-- names.
pub small : Snapshot
small =
    record {
      names = [];
      crates = [];
      dependencies =
          record { owner = 0; crate = 2; sysroot = 0 }
          ∷ record { owner = 1; crate = 4; sysroot = 1 }
          ∷ record { owner = 0; crate = 3; sysroot = 1 }
          ∷ [];
      maps = record { crate = 0; block = 0; no_std = 0 } ∷ record { crate = 0; block = 2; no_std = 0 } ∷ [];
      modules = record { map = 0; parent = 0 } ∷ record { map = 0; parent = 1 } ∷ record { map = 1; parent = 0 } ∷ [];
      children = [];
      preludes = [];
      definitions =
          record { kind = 1; first = 1; second = 0; place = 1 }
          ∷ record { kind = 4; first = 0; second = 0; place = 4 }
          ∷ record { kind = 4; first = 0; second = 0; place = 7 }
          ∷ [];
      scopes =
          entry 0 0 3 1 3 10
          ∷ entry 0 0 4 1 1 18
          ∷ entry 1 0 3 1 0 26
          ∷ entry 0 0 5 2 2 34
          ∷ entry 0 1 3 2 0 42
          ∷ entry 0 0 6 0 1 50
          ∷ [];
      imports = import 0 1 0 60 ∷ import 1 1 1 66 ∷ import 1 2 2 72 ∷ import 1 1 2 78 ∷ [];
      externs =
          record { owner = 0; name = 0; target = 5; place = 90 }
          ∷ record { owner = 0; name = 1; target = 5; place = 93 }
          ∷ record { owner = 1; name = 2; target = 5; place = 96 }
          ∷ [];
      members = [];
    }

-- the place of what was found, or 0
pub place : Option Scope → ℕ
place (Some e) = e.place
place None = 0

pub all : Scope → Bool
all e = true

-- the first entry in the module; by its own definition, in its own namespace
pub names :
    place (name_of small 0 (defined_item 0 1))
    ∷ place (name_of small 1 (defined_item 0 1))
    ∷ place (name_of small 0 (defined_item 0 2))
    ∷ place (name_of small 0 (defined_item 1 2))
    ∷ place (name_of small 0 (module_item 1))
    ∷ place (name_of small 1 (module_item 1))
    ∷ []
    ≡ 10 ∷ 26 ∷ 34 ∷ 42 ∷ 50 ∷ 0 ∷ []
unfolding small entry import place name_of first_of is_for item_of same_item definition_of
names = refl

-- the records up to and with the one that is found, or all
pub reads :
    name_reads small 0 (defined_item 0 1)
    ∷ name_reads small 1 (defined_item 0 1)
    ∷ name_reads small 1 (module_item 1)
    ∷ []
    ≡ 1 ∷ 3 ∷ 6 ∷ []
unfolding small entry import name_reads reads_of is_for item_of same_item definition_of
reads = refl

-- with the bit and without, where there is an entry that isn't deprecated, and where there is none
pub fresh :
    place (preferred true small 0 (defined_item 0 1) all (name_of small 0 (defined_item 0 1)))
    ∷ place (preferred false small 0 (defined_item 0 1) all (name_of small 0 (defined_item 0 1)))
    ∷ place (preferred true small 0 (defined_item 0 2) all (name_of small 0 (defined_item 0 2)))
    ∷ preferred_reads true small 0 (defined_item 0 1) all 1
    ∷ preferred_reads false small 0 (defined_item 0 1) all 1
    ∷ preferred_reads true small 0 (defined_item 0 2) all 4
    ∷ []
    ≡ 18 ∷ 10 ∷ 34 ∷ 2 ∷ 1 ∷ 6 ∷ []
unfolding small entry import place all name_of names_of names_reads preferred preferred_reads or_first first_of reads_of is_for item_of same_item
    definition_of
fresh = refl

-- a name in types, in values and in macros, and in another module
pub by_name :
    place (get small 0 0 3) ∷ place (get small 0 1 3) ∷ place (get small 0 2 3) ∷ place (get small 1 0 3) ∷ place (get small 1 1 3) ∷ []
    ≡ 10 ∷ 42 ∷ 0 ∷ 26 ∷ 0 ∷ []
unfolding small entry import place get first_of
by_name = refl

-- the imports of a crate alone, in record order
pub imports :
    map (λ i. i.place) (import_info_for small 1 (defined_item 0 1))
    ∷ map (λ i. i.place) (import_info_for small 0 (defined_item 0 1))
    ∷ map (λ i. i.place) (import_info_for small 0 (defined_item 0 2))
    ∷ []
    ≡ (66 ∷ 78 ∷ []) ∷ (60 ∷ []) ∷ [] ∷ []
unfolding small entry import import_info_for select item_of same_item definition_of
imports = refl

-- neither, hidden, unstable, both
pub bits :
    map (λ b. is_hidden (import 0 0 b 0)) (0 ∷ 1 ∷ 2 ∷ 3 ∷ [])
    ∷ map (λ b. is_unstable (import 0 0 b 0)) (0 ∷ 1 ∷ 2 ∷ 3 ∷ [])
    ∷ []
    ≡ (false ∷ true ∷ false ∷ true ∷ []) ∷ (false ∷ false ∷ true ∷ true ∷ []) ∷ []
unfolding import
bits = refl

-- out of the block, and no further
pub ancestors : ancestor_maps small 2 ≡ 2 ∷ 1 ∷ []
unfolding small entry import ancestor_maps steps steps_to steps_or module_of map_of
ancestors = refl

-- the last that names the module
pub externs : extern_of small 0 5 ≡ Some (record { owner = 0; name = 1; target = 5; place = 93 })
unfolding small entry import extern_of first_of
externs = refl

-- those of the sysroot before the others
pub dependencies : map (λ d. d.crate) (sysroot_first small 0) ≡ 3 ∷ 2 ∷ []
unfolding small entry import sysroot_first dependencies_of select
dependencies = refl
