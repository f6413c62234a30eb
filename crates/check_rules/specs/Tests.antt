-- What is asked of each kind of record: fields in range (32), a known edition (43), numbers defined (33), nothing repeated (34), the right
-- place (35).
use Rattle.std.specs.Prelude.{ℕ, zero, suc, ◌+◌, ◌-◌, List, [], ◌∷◌, Bool, true, ◌&&◌, ◌||◌, not, eqb, leb, ltb, length, get_or}
use Rattle.snapshot.specs.Lists.{any, all, eq_list, rows}
use Rattle.snapshot.specs.Limits.{namespace_limit}
use Rattle.snapshot.specs.Records.{Name, Crate, Dependency, Map, Module, Child, Prelude, Definition, Scope, Import, Extern, Member, Snapshot}
use Rattle.check_rules.specs.Builtins.{builtins}

-- how many things of each kind a record's numbers may name so far
pub record Counts : Type 0 where
  pub names : ℕ
  pub crates : ℕ
  pub maps : ℕ
  pub modules : ℕ
  pub definitions : ℕ

abbrev pub counts_of : Snapshot → Counts
counts_of s =
    record {
      names = length s.names;
      crates = length s.crates;
      maps = length s.maps;
      modules = length s.modules;
      definitions = length s.definitions;
    }

-- what stands for a record that is not there

abbrev pub no_name : Name
no_name = record { bytes = 0; text = [] }

abbrev pub no_map : Map
no_map = record { crate = 0; block = 0; no_std = 0 }

abbrev pub no_module : Module
no_module = record { map = 0; parent = 0 }

abbrev pub no_definition : Definition
no_definition = record { kind = 0; first = 0; second = 0; place = 0 }

abbrev pub map_of : Snapshot → ℕ → ℕ
map_of s m = (get_or s.modules m no_module).map

abbrev pub parent_of : Snapshot → ℕ → ℕ
parent_of s m = (get_or s.modules m no_module).parent

abbrev pub crate_of : Snapshot → ℕ → ℕ
crate_of s m = (get_or s.maps (map_of s m) no_map).crate

abbrev pub kind_of_definition : Snapshot → ℕ → ℕ
kind_of_definition s d = (get_or s.definitions d no_definition).kind

-- names

-- what a word that holds b more bytes of text stays below
unfoldable pub text_bound : ℕ → ℕ
text_bound zero = 1
text_bound (suc zero) = 256
text_bound (suc (suc zero)) = 65536
text_bound (suc (suc (suc b))) = 16777216

-- words with b bytes of text in them have nothing past these
unfoldable pub padded : ℕ → List ℕ → Bool
padded b [] = true
padded b (w ∷ ws) = ltb w (text_bound b) && padded (b - 3) ws

abbrev pub name_range : Name → Bool
name_range x = leb 1 x.bytes && leb x.bytes 255 && padded x.bytes x.text

abbrev pub same_name : Name → Name → Bool
same_name x y = eqb x.bytes y.bytes && eq_list x.text y.text

-- crates

abbrev pub crate_range : Crate → Bool
crate_range x = leb x.origin 4 && leb x.no_std 1

abbrev pub is_edition : ℕ → Bool
is_edition e = eqb e 2015 || eqb e 2018 || eqb e 2021 || eqb e 2024

-- dependencies

abbrev pub dependency_range : Dependency → Bool
dependency_range x = leb x.sysroot 1

abbrev pub dependency_defined : Counts → Dependency → Bool
dependency_defined n x = ltb x.owner n.crates && ltb x.crate n.crates

-- maps

abbrev pub map_range : Map → Bool
map_range x = leb x.no_std 1

abbrev pub map_defined : Counts → Map → Bool
map_defined n x = ltb x.crate n.crates && leb x.block n.modules

-- the map is the own map of the crate: it is no block's
abbrev pub is_own : ℕ → Map → Bool
is_own c x = eqb x.crate c && eqb x.block 0

-- a second own map of a crate
abbrev pub map_repeated : Snapshot → Map → Bool
map_repeated s x = eqb x.block 0 && any (is_own x.crate) s.maps

-- a block stands in its own crate
abbrev pub map_placed : Snapshot → Map → Bool
map_placed s x = eqb x.block 0 || eqb (crate_of s (x.block - 1)) x.crate

-- modules

abbrev pub module_defined : Counts → Module → Bool
module_defined n x = ltb x.map n.maps && leb x.parent n.modules

abbrev pub is_in : ℕ → Module → Bool
is_in k x = eqb x.map k

-- the map is the latest; its first module, and no other, has no parent; a parent is of the same map
abbrev pub module_placed : Snapshot → Module → Bool
module_placed s x =
    eqb (x.map + 1) (length s.maps)
    && (any (is_in x.map) s.modules || eqb x.parent 0)
    && (not (any (is_in x.map) s.modules) || not (eqb x.parent 0))
    && (eqb x.parent 0 || eqb (map_of s (x.parent - 1)) x.map)

-- children

abbrev pub child_defined : Counts → Child → Bool
child_defined n x = ltb x.owner n.modules && ltb x.child n.modules

abbrev pub same_child : Child → Child → Bool
same_child x y = eqb x.child y.child

-- a child is of its owner's map and under its owner
abbrev pub child_placed : Snapshot → Child → Bool
child_placed s x = eqb (map_of s x.child) (map_of s x.owner) && eqb (parent_of s x.child) (x.owner + 1)

-- preludes

abbrev pub prelude_defined : Counts → Prelude → Bool
prelude_defined n x = ltb x.map n.maps && ltb x.target n.modules

abbrev pub same_prelude : Prelude → Prelude → Bool
same_prelude x y = eqb x.map y.map

-- definitions

abbrev pub is_builtin : Name → Bool
is_builtin x = any (same_name x) builtins

-- a known kind; a second argument of 0 but for a variant; a builtin's name, where it is defined, is one of the builtins
abbrev pub definition_range : Snapshot → Definition → Bool
definition_range s x =
    leb 1 x.kind
    && leb x.kind 5
    && (eqb x.kind 2 || eqb x.second 0)
    && (not (eqb x.kind 3) || leb (length s.names) x.first || is_builtin (get_or s.names x.first no_name))

-- a variant has a parent and a name, a builtin a name, every other definition a module
abbrev pub definition_defined : Counts → Definition → Bool
definition_defined n x =
    (not (eqb x.kind 2) || ltb x.first n.definitions && ltb x.second n.names)
    && (not (eqb x.kind 3) || ltb x.first n.names)
    && (eqb x.kind 2 || eqb x.kind 3 || ltb x.first n.modules)

abbrev pub same_definition : Definition → Definition → Bool
same_definition x y = eqb x.kind y.kind && eqb x.first y.first

-- a module or a builtin that has a definition already
abbrev pub definition_repeated : Snapshot → Definition → Bool
definition_repeated s x = (eqb x.kind 1 || eqb x.kind 3) && any (same_definition x) s.definitions

-- a variant's parent is of kind 4
abbrev pub definition_placed : Snapshot → Definition → Bool
definition_placed s x = not (eqb x.kind 2) || eqb (kind_of_definition s x.first) 4

-- scopes

abbrev pub scope_range : Scope → Bool
scope_range x =
    leb x.ns namespace_limit
    && leb x.visibility 3
    && (not (eqb x.visibility 0) || eqb x.number 0)
    && leb x.declared 3
    && leb x.bits 3

-- the number of a visibility is a crate or a module
abbrev pub scope_defined : Counts → Scope → Bool
scope_defined n x =
    ltb x.owner n.modules
    && ltb x.name n.names
    && ltb x.definition n.definitions
    && (not (eqb x.visibility 1) || ltb x.number n.crates)
    && (leb x.visibility 1 || ltb x.number n.modules)

abbrev pub same_entry : Scope → Scope → Bool
same_entry x y = eqb x.owner y.owner && eqb x.ns y.ns && eqb x.name y.name

-- in the macros namespace stand definitions of kind 5 alone
abbrev pub ns_placed : Snapshot → ℕ → ℕ → Bool
ns_placed s ns d = not (eqb ns 2) || eqb (kind_of_definition s d) 5

-- imports

abbrev pub import_range : Import → Bool
import_range x = leb x.ns namespace_limit && leb x.bits 3

abbrev pub import_defined : Counts → Import → Bool
import_defined n x =
    ltb x.owner n.crates
    && ltb x.definition n.definitions
    && ltb x.name n.names
    && ltb x.container n.modules

-- externs

abbrev pub extern_defined : Counts → Extern → Bool
extern_defined n x = ltb x.owner n.crates && ltb x.name n.names && ltb x.target n.modules

abbrev pub same_extern : Extern → Extern → Bool
same_extern x y = eqb x.owner y.owner && eqb x.name y.name

-- members

abbrev pub member_range : Member → Bool
member_range x = leb x.kind 3 && leb x.bits 3

abbrev pub member_defined : Counts → Member → Bool
member_defined n x = ltb x.parent n.definitions && ltb x.name n.names && ltb x.definition n.definitions

-- what a member of a kind with that parent and name may be: the parent's variant by that name, or a definition of kind 4
abbrev pub is_member : ℕ → ℕ → ℕ → Definition → Bool
is_member kind parent name d =
    (not (eqb kind 0) || eqb d.kind 2 && eqb d.first parent && eqb d.second name)
    && (eqb kind 0 || eqb d.kind 4)

-- a parent is of kind 4
abbrev pub member_placed : Snapshot → Member → Bool
member_placed s x =
    eqb (kind_of_definition s x.parent) 4
    && is_member x.kind x.parent x.name (get_or s.definitions x.definition no_definition)

-- after the last record

-- every map has a module
abbrev pub maps_filled : Snapshot → Bool
maps_filled s = all (λ k. any (is_in k) s.modules) (rows (λ k. k) 0 (length s.maps))

-- every crate has an own map
abbrev pub crates_own : Snapshot → Bool
crates_own s = all (λ c. any (is_own c) s.maps) (rows (λ c. c) 0 (length s.crates))
