-- What a path means where it is written, and whether any path names an item there. Over the snapshot alone: nothing of the search is in it.
use Rattle.std.specs.Prelude.{ℕ, zero, suc, ◌≡◌, List, [], ◌∷◌, ◌++◌, map, Bool, true, false, ◌&&◌, eqb, ltb}
use Rattle.std.specs.Prelude.{Option, None, Some}
use Rattle.snapshot.specs.Records.{Snapshot, Scope, Prelude, Extern, Member}
use Rattle.module_tree.specs.rules.Modules.{map_no, crate_of, parent_of, crate_root}
use Rattle.module_tree.specs.rules.Privately.{block_step, module_around}
use Rattle.hir_def.specs.Finds.{first_of, select}
use Rattle.hir_def.specs.Items.{types, macros, definition_of, crate_data, item_of, ns_of, module_item, defined_item}
use Rattle.hir_def.specs.Nameres.{steps, prelude_of}
use Rattle.hir_def.specs.declared.Item.{Item}
use Rattle.hir_def.specs.declared.Item.TheVariants.{Mod, Def}
use Rattle.nameable.specs.Seen.{seen}

-- `self` (no `super`), `super` any number of times, `crate`
pub data Keyword : Type 0 where
  supers : ℕ → Keyword
  crate : Keyword

-- a keyword alone, `::n`, `n`, and `p::n`
pub data Path : Type 0 where
  keyword : Keyword → Path
  absolute : ℕ → Path
  plain : ℕ → Path
  into : Path → ℕ → Path

-- how many names it has
unfoldable pub names_in : Path → ℕ
names_in (keyword k) = 0
names_in (absolute n) = 1
names_in (plain n) = 1
names_in (into p n) = suc (names_in p)

-- it begins with a name
unfoldable pub is_plain : Path → Bool
is_plain (keyword k) = false
is_plain (absolute n) = false
is_plain (plain n) = true
is_plain (into p n) = is_plain p

-- an item under a name, by the record at that place
pub record Named : Type 0 where
  pub name : ℕ
  pub item : Item
  pub place : ℕ

-- a name means the first that has it
unfoldable pub named : ℕ → List Named → Option Named
named n xs = first_of (λ x. eqb x.name n) xs

-- the seen entries of a module in a namespace

abbrev pub is_seen_in : Snapshot → ℕ → ℕ → ℕ → Scope → Bool
is_seen_in s from ns m e = eqb e.owner m && (eqb e.ns ns && seen s from e)

abbrev pub as_named : Snapshot → Scope → Named
as_named s e = record { name = e.name; item = item_of s e.ns e.definition; place = e.place }

unfoldable pub entries_in : Snapshot → ℕ → ℕ → ℕ → List Named
entries_in s from ns m = map (as_named s) (select (is_seen_in s from ns m) s.scopes)

-- the variants of an enum, in types and values; the record is the variant's definition

abbrev pub is_variant_of : ℕ → Member → Bool
is_variant_of d x = eqb x.parent d && eqb x.kind 0

abbrev pub variant_named : Snapshot → ℕ → Member → Named
variant_named s ns x = record { name = x.name; item = defined_item ns x.definition; place = (definition_of s x.definition).place }

unfoldable pub variants_in : Snapshot → ℕ → ℕ → List Named
variants_in s ns d =
    elim (ltb ns macros) [ true ↦ map (variant_named s ns) (select (is_variant_of d) s.members) | false ↦ [] ]

-- the externs of the viewer's crate, in types

abbrev pub extern_named : Extern → Named
extern_named x = record { name = x.name; item = module_item x.target; place = x.place }

unfoldable pub externs_in : Snapshot → ℕ → ℕ → List Named
externs_in s from ns =
    elim (eqb ns types) [ true ↦ map extern_named (select (λ x. eqb x.owner (crate_of s from)) s.externs) | false ↦ [] ]

-- in edition 2015 a leading `::` names none of them
unfoldable pub absolutes : Snapshot → ℕ → ℕ → List Named
absolutes s from ns = elim (eqb (crate_data s (crate_of s from)).edition 2015) [ true ↦ [] | false ↦ externs_in s from ns ]

unfoldable pub entries_over : Snapshot → ℕ → ℕ → List ℕ → List Named
entries_over s from ns [] = []
entries_over s from ns (m ∷ ms) = entries_in s from ns m ++ entries_over s from ns ms

-- the viewing module and, while the one before is a block map's root, the block's parent
unfoldable pub scopes_from : Snapshot → ℕ → List ℕ
scopes_from s m = m ∷ steps (block_step s) m

unfoldable pub prelude_entries : Snapshot → ℕ → ℕ → Option Prelude → List Named
prelude_entries s from ns None = []
prelude_entries s from ns (Some p) = entries_in s from ns p.target

-- what a plain first name may mean, nearest first: the seen entries of these scopes, the externs, the seen entries of the map's prelude
unfoldable pub firsts : Snapshot → ℕ → ℕ → List Named
firsts s from ns =
    entries_over s from ns (scopes_from s from) ++ (externs_in s from ns ++ prelude_entries s from ns (prelude_of s (map_no s from)))

-- what a later name may mean after what was reached: a seen entry of the module, a variant of the enum
unfoldable pub within : Snapshot → ℕ → ℕ → Item → List Named
within s from ns (Mod m) = entries_in s from ns m.0
within s from ns (Def k d) = variants_in s ns d.0

-- from the module m so many times to the module around; a block map's root is no module of its own, the one in which the block stands is

unfoldable pub above_or : Snapshot → (ℕ → Option ℕ) → ℕ → Option ℕ
above_or s rec zero = None
above_or s rec (suc p) = rec (module_around s p)

unfoldable pub above : Snapshot → ℕ → ℕ → Option ℕ
above s zero m = Some m
above s (suc k) m = above_or s (above s k) (parent_of s m)

unfoldable pub keyword_module : Snapshot → ℕ → Keyword → Option ℕ
keyword_module s from (supers k) = above s k (module_around s from)
keyword_module s from crate = Some (crate_root s from)

-- no name and no record is read for a keyword
unfoldable pub module_named : Option ℕ → Option Named
module_named None = None
module_named (Some m) = Some (record { name = 0; item = module_item m; place = 0 })

unfoldable pub after : Option Named → (Item → Option Named) → Option Named
after None f = None
after (Some x) f = f x.item

-- The path read in the module: its last name in the namespace, the others in types.
unfoldable pub reads : Snapshot → ℕ → ℕ → Path → Option Named
reads s from ns (keyword k) = module_named (keyword_module s from k)
reads s from ns (absolute n) = named n (absolutes s from ns)
reads s from ns (plain n) = named n (firsts s from ns)
reads s from ns (into p n) = after (reads s from types p) (λ x. named n (within s from ns x))

unfoldable pub item_in : Option Named → Option Item
item_in None = None
item_in (Some x) = Some x.item

-- the item that a path means in the module, in a namespace
unfoldable pub means : Snapshot → ℕ → ℕ → Path → Option Item
means s from ns p = item_in (reads s from ns p)

-- the path names the item in the module
abbrev pub Names : Snapshot → ℕ → Item → Path → Type 0
Names s from item p = means s from (ns_of item) p ≡ Some item

-- some path does, of any kind and with any number of names
pub record Nameable (s : Snapshot) (from : ℕ) (item : Item) : Type 0 where
  pub path : Path
  pub names : Names s from item path

-- the names of a path, and the places of the records by which they are read, in order

unfoldable pub names_of : Path → List ℕ
names_of (keyword k) = []
names_of (absolute n) = n ∷ []
names_of (plain n) = n ∷ []
names_of (into p n) = names_of p ++ (n ∷ [])

unfoldable pub place_in : Option Named → ℕ
place_in None = 0
place_in (Some x) = x.place

unfoldable pub route_of : Snapshot → ℕ → ℕ → Path → List ℕ
route_of s from ns (keyword k) = []
route_of s from ns (absolute n) = place_in (reads s from ns (absolute n)) ∷ []
route_of s from ns (plain n) = place_in (reads s from ns (plain n)) ∷ []
route_of s from ns (into p n) = route_of s from types p ++ (place_in (reads s from ns (into p n)) ∷ [])
