-- What a path means, read from a module. Over the snapshot alone: nothing of the search is in it.
use Rattle.std.specs.Prelude.{ℕ, zero, suc, List, [], ◌∷◌, Bool, true, false, ◌&&◌, eqb, ltb}
use Rattle.std.specs.Prelude.{Option, None, Some}
use Rattle.snapshot.specs.Records.{Snapshot, Scope, Prelude, Extern, Member}
use Rattle.module_tree.specs.rules.Modules.{map_no, crate_of, parent_of, block_of, crate_root}
use Rattle.module_tree.specs.rules.Visibility.{last, sees}
use Rattle.hir_def.specs.Finds.{first_of, or_first, first_some}
use Rattle.hir_def.specs.Items.{types, macros, item_of, same_item, ns_of, module_item}
use Rattle.hir_def.specs.ItemScope.{get}
use Rattle.hir_def.specs.Nameres.{steps, prelude_of}
use Rattle.hir_def.specs.declared.Item.{Item}
use Rattle.hir_def.specs.declared.Item.TheVariants.{Mod, Def}

-- the path kinds that stand before the names; 0 is a plain path

abbrev pub self_kind : ℕ
self_kind = 1

-- `super` once: the search gives a parent of the viewing module this keyword, and nothing further up
abbrev pub super_kind : ℕ
super_kind = 2

abbrev pub crate_kind : ℕ
crate_kind = 3

-- a leading `::`
abbrev pub absolute_kind : ℕ
absolute_kind = 4

-- a member that is a variant
abbrev pub variant_member : ℕ
variant_member = 0

-- the block's parent +1 of a block map's root, 0 of any other module
unfoldable pub outward : Snapshot → ℕ → ℕ
outward s m = elim (eqb (parent_of s m) 0) [ true ↦ block_of s m | false ↦ 0 ]

-- the modules in whose scopes a first name is looked for: the viewing module and, while the one tried is a block map's root, the block's parent
unfoldable pub scopes_from : Snapshot → ℕ → List ℕ
scopes_from s m = m ∷ steps (outward s) m

-- a block map's root stands for the block's parent, which may be one again
unfoldable pub stands_for : Snapshot → ℕ → ℕ
stands_for s m = last (outward s) m

-- an entry seen from the viewing module means its item; one that is not visible ends the reading at nothing
unfoldable pub meaning : Snapshot → ℕ → Scope → Option Item
meaning s from e = elim (sees s from e) [ true ↦ Some (item_of s e.ns e.definition) | false ↦ None ]

-- by the entry, or by what comes where there is none
unfoldable pub entry_or : Snapshot → ℕ → Option Item → Option Scope → Option Item
entry_or s from other None = other
entry_or s from other (Some e) = meaning s from e

abbrev pub is_extern_named : ℕ → ℕ → Extern → Bool
is_extern_named c name x = eqb x.owner c && eqb x.name name

-- a crate's extern of that name
unfoldable pub extern_named : Snapshot → ℕ → ℕ → Option Extern
extern_named s c name = first_of (is_extern_named c name) s.externs

unfoldable pub extern_means : Option Extern → Option Item
extern_means None = None
extern_means (Some x) = Some (module_item x.target)

-- by an extern of the viewer's crate, if the name is looked up in types
unfoldable pub in_externs : Snapshot → ℕ → ℕ → ℕ → Option Item
in_externs s from ns name = elim (eqb ns types) [ true ↦ extern_means (extern_named s (crate_of s from) name) | false ↦ None ]

unfoldable pub prelude_means : Snapshot → ℕ → ℕ → ℕ → Option Prelude → Option Item
prelude_means s from ns name None = None
prelude_means s from ns name (Some p) = entry_or s from None (get s p.target ns name)

-- by the prelude of the viewing module's map
unfoldable pub in_prelude_of : Snapshot → ℕ → ℕ → ℕ → Option Item
in_prelude_of s from ns name = prelude_means s from ns name (prelude_of s (map_no s from))

-- the entry of the first of these scopes that has the name
unfoldable pub entry_from : Snapshot → ℕ → ℕ → ℕ → Option Scope
entry_from s from ns name = first_some (λ m. get s m ns name) (scopes_from s from)

-- a first name: the first of scopes, externs and prelude that has it decides
unfoldable pub first_name : Snapshot → ℕ → ℕ → ℕ → Option Item
first_name s from ns name =
    entry_or s from (or_first (in_externs s from ns name) (in_prelude_of s from ns name)) (entry_from s from ns name)

abbrev pub is_variant_named : ℕ → ℕ → Member → Bool
is_variant_named d name x = eqb x.parent d && (eqb x.kind variant_member && eqb x.name name)

-- an enum's first variant of that name; a definition without variants has none
unfoldable pub variant_named : Snapshot → ℕ → ℕ → Option Member
variant_named s d name = first_of (is_variant_named d name) s.members

-- a variant is in types and values
unfoldable pub variant_in : Snapshot → ℕ → Option Member → Option Item
variant_in s ns None = None
variant_in s ns (Some x) = elim (ltb ns macros) [ true ↦ Some (item_of s ns x.definition) | false ↦ None ]

-- a later name, after what was reached: in a module its scope, in an enum its variants, nothing in anything else
unfoldable pub later_name : Snapshot → ℕ → ℕ → ℕ → Item → Option Item
later_name s from ns name (Mod m) = entry_or s from None (get s m.0 ns name)
later_name s from ns name (Def k d) = variant_in s ns (variant_named s d.0 name)

unfoldable pub after : Option Item → (Item → Option Item) → Option Item
after None f = None
after (Some x) f = f x

-- where a name that these follow is looked up: the last one in the item's namespace, the others in types
unfoldable pub looked_in : ℕ → List ℕ → ℕ
looked_in ns [] = ns
looked_in ns (n ∷ more) = types

-- the names after what was reached
unfoldable pub follow : Snapshot → ℕ → ℕ → Option Item → List ℕ → Option Item
follow s from ns here [] = here
follow s from ns here (n ∷ more) = follow s from ns (after here (later_name s from (looked_in ns more) n)) more

unfoldable pub plainly : Snapshot → ℕ → ℕ → List ℕ → Option Item
plainly s from ns [] = None
plainly s from ns (n ∷ more) = follow s from ns (first_name s from (looked_in ns more) n) more

-- by externs alone
unfoldable pub absolutely : Snapshot → ℕ → ℕ → List ℕ → Option Item
absolutely s from ns [] = None
absolutely s from ns (n ∷ more) = follow s from ns (in_externs s from (looked_in ns more) n) more

-- the module with that number +1
unfoldable pub parent_means : Snapshot → ℕ → Option Item
parent_means s zero = None
parent_means s (suc p) = Some (module_item (stands_for s p))

-- The item that a path means in the module `from`: its kind, its names, and the namespace of what it is to name. The names after `self`,
-- `super` and `crate` are all later names.
unfoldable pub reads_to : Snapshot → ℕ → ℕ → ℕ → List ℕ → Option Item
reads_to s from ns kind names =
    elim (eqb kind self_kind) [
      | true ↦ follow s from ns (Some (module_item (stands_for s from))) names
      | false ↦ elim (eqb kind super_kind) [
        | true ↦ follow s from ns (parent_means s (parent_of s (stands_for s from))) names
        | false ↦ elim (eqb kind crate_kind) [
          | true ↦ follow s from ns (Some (module_item (crate_root s from))) names
          | false ↦ elim (eqb kind absolute_kind) [ true ↦ absolutely s from ns names | false ↦ plainly s from ns names ]
        ]
      ]
    ]

unfoldable pub is_the : Item → Option Item → Bool
is_the item None = false
is_the item (Some x) = same_item x item

-- The path, looked up in the item's namespace, means exactly the item. Items are the same as for the search: a module in types is known by its
-- module number, whichever definition or extern led to it; anything else by namespace and definition.
unfoldable pub reads_back : Snapshot → ℕ → Item → ℕ → List ℕ → Bool
reads_back s from item kind names = is_the item (reads_to s from (ns_of item) kind names)
