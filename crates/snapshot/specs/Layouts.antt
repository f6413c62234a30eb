-- Where the records stand, and which lists a layout and its tables stand for.
use Rattle.std.specs.Prelude.{ℕ, ◌+◌, ◌*◌, ◌/◌, List, get_or}
use Rattle.snapshot.specs.Lists.{rows}
use Rattle.snapshot.specs.Limits.{word_limit, crate_limit, module_limit, name_limit}
use Rattle.snapshot.specs.Sizes.{crate_size, dependency_size, map_size, module_size, child_size, prelude_size}
use Rattle.snapshot.specs.Sizes.{definition_size, scope_size, import_size, extern_size, member_size}
use Rattle.snapshot.specs.Records.{Name, Map, Module, Snapshot, name_at, crate_at, dependency_at, map_at}
use Rattle.snapshot.specs.Records.{child_at, prelude_at, definition_at, scope_at, import_at, extern_at, member_at}
use Rattle.snapshot.specs.declared.layout.Layout.{Layout}

-- the place of the first record of a kind; maps and modules share a run

abbrev pub crate_base : Layout → ℕ
crate_base l = l.text

abbrev pub dependency_base : Layout → ℕ
dependency_base l = crate_base l + crate_size * l.crates

abbrev pub map_base : Layout → ℕ
map_base l = dependency_base l + dependency_size * l.dependencies

abbrev pub child_base : Layout → ℕ
child_base l = map_base l + map_size * l.maps + module_size * l.modules

abbrev pub prelude_base : Layout → ℕ
prelude_base l = child_base l + child_size * l.children

abbrev pub definition_base : Layout → ℕ
definition_base l = prelude_base l + prelude_size * l.preludes

abbrev pub scope_base : Layout → ℕ
scope_base l = definition_base l + definition_size * l.definitions

abbrev pub import_base : Layout → ℕ
import_base l = scope_base l + scope_size * l.scopes

abbrev pub extern_base : Layout → ℕ
extern_base l = import_base l + import_size * l.imports

abbrev pub member_base : Layout → ℕ
member_base l = extern_base l + extern_size * l.externs

-- the words of all the records
abbrev pub word_count : Layout → ℕ
word_count l = member_base l + member_size * l.members

-- no record
abbrev pub no_records : Layout
no_records =
    record {
      text = 0;
      names = 0;
      crates = 0;
      dependencies = 0;
      maps = 0;
      modules = 0;
      children = 0;
      preludes = 0;
      definitions = 0;
      scopes = 0;
      imports = 0;
      externs = 0;
      members = 0;
      latest = 0;
    }

-- the tables of the work area: a name's head; a module's map, its map's head and its parent +1; a map's root; a crate's own map +1; and the
-- index: chains of records with one key, and of the dependencies and externs a crate's first and one past its last. The first stands at 0; here
-- are the first words of the others, those before the index, and the words of all

abbrev pub module_table : ℕ
module_table = name_limit

abbrev pub root_table : ℕ
root_table = module_table + 3 * module_limit

-- a map has a module
abbrev pub crate_table : ℕ
crate_table = root_table + module_limit

abbrev pub row_words : ℕ
row_words = crate_table + crate_limit

-- chains: so many keys have the items of scope records, and those of imports
abbrev pub item_keys : ℕ
item_keys = 512

abbrev pub import_keys : ℕ
import_keys = 256

-- half a word a key
abbrev pub head_table : ℕ
head_table = row_words

-- half a word a record of a chain
abbrev pub link_table : ℕ
link_table = head_table + (module_limit + item_keys + import_keys) / 2

-- so many scope records fit into the words
abbrev pub scope_limit : ℕ
scope_limit = word_limit / scope_size

abbrev pub dependency_table : ℕ
dependency_table = link_table + scope_limit

abbrev pub extern_table : ℕ
extern_table = dependency_table + 2 * crate_limit

abbrev pub table_words : ℕ
table_words = extern_table + 2 * crate_limit

abbrev pub name_head : List ℕ → ℕ → ℕ
name_head A k = get_or A k 0

abbrev pub module_map : List ℕ → ℕ → ℕ
module_map A m = get_or A (module_table + 3 * m) 0

abbrev pub module_head : List ℕ → ℕ → ℕ
module_head A m = get_or A (module_table + 3 * m + 1) 0

abbrev pub module_parent : List ℕ → ℕ → ℕ
module_parent A m = get_or A (module_table + 3 * m + 2) 0

abbrev pub map_root : List ℕ → ℕ → ℕ
map_root A k = get_or A (root_table + k) 0

abbrev pub own_map : List ℕ → ℕ → ℕ
own_map A c = get_or A (crate_table + c) 0

abbrev pub module_row : List ℕ → ℕ → Module
module_row A m = record { map = module_map A m; parent = module_parent A m }

abbrev pub names_of : List ℕ → List ℕ → ℕ → List Name
names_of W A n = rows (λ k. name_at W (name_head A k)) 0 n

abbrev pub modules_of : List ℕ → ℕ → List Module
modules_of A n = rows (module_row A) 0 n

abbrev pub maps_of : List ℕ → List ℕ → ℕ → List Map
maps_of W A n = rows (λ k. map_at W (module_head A (map_root A k))) 0 n

-- n records of one size from a place on
abbrev pub records_of : {R : Type 0} → (List ℕ → ℕ → R) → ℕ → List ℕ → ℕ → ℕ → List R
records_of f size W base n = rows (λ k. f W (base + size * k)) 0 n

-- the lists of a layout, with the maps given
abbrev pub snap_with : List ℕ → List ℕ → Layout → List Map → Snapshot
snap_with W A l ms =
    record {
      names = names_of W A l.names;
      crates = records_of crate_at crate_size W (crate_base l) l.crates;
      dependencies = records_of dependency_at dependency_size W (dependency_base l) l.dependencies;
      maps = ms;
      modules = modules_of A l.modules;
      children = records_of child_at child_size W (child_base l) l.children;
      preludes = records_of prelude_at prelude_size W (prelude_base l) l.preludes;
      definitions = records_of definition_at definition_size W (definition_base l) l.definitions;
      scopes = records_of scope_at scope_size W (scope_base l) l.scopes;
      imports = records_of import_at import_size W (import_base l) l.imports;
      externs = records_of extern_at extern_size W (extern_base l) l.externs;
      members = records_of member_at member_size W (member_base l) l.members;
    }

-- the lists of a layout and its tables
abbrev pub snap_of : List ℕ → List ℕ → Layout → Snapshot
snap_of W A l = snap_with W A l (maps_of W A l.maps)
