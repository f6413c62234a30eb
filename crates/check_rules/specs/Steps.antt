-- One record: the first of its tests that fails gives the number, else the snapshot has one record more.
use Rattle.std.specs.Prelude.{ℕ, List, [], ◌∷◌, ◌++◌, Bool, true, false, not, ltb, length}
use Rattle.snapshot.specs.Lists.{any}
use Rattle.snapshot.specs.Limits.{crate_limit, module_limit, name_limit, definition_limit}
use Rattle.snapshot.specs.Refusals.{range_refusal, undefined_refusal, repeated_refusal, place_refusal, count_refusal, edition_refusal}
use Rattle.snapshot.specs.Records.{Name, Crate, Dependency, Map, Module, Child, Prelude, Definition, Scope, Import, Extern, Member, Snapshot}
use Rattle.check_rules.specs.Tests.{counts_of, name_range, same_name, crate_range, is_edition, dependency_range, dependency_defined, map_range}
use Rattle.check_rules.specs.Tests.{map_defined, map_repeated, map_placed, module_defined, module_placed, child_defined, same_child, child_placed}
use Rattle.check_rules.specs.Tests.{prelude_defined, same_prelude, definition_range, definition_defined, definition_repeated, definition_placed}
use Rattle.check_rules.specs.Tests.{scope_range, scope_defined, same_entry, ns_placed, import_range, import_defined, extern_defined, same_extern}
use Rattle.check_rules.specs.Tests.{member_range, member_defined, member_placed}

-- a refusal, or the snapshot with the record
pub data Next : Type 0 where
  no : ℕ → Next
  on : Snapshot → Next

abbrev pub need : Bool → ℕ → Next → Next
need true n r = r
need false n r = no n

-- fields in range, numbers defined, repeated or not, in its place, room for it
abbrev pub judge : Bool → Bool → Bool → Bool → Bool → Snapshot → Next
judge range defined repeated placed room s =
    need range range_refusal
    (need defined undefined_refusal (need (not repeated) repeated_refusal (need placed place_refusal (need room count_refusal (on s)))))

-- a crate's: fields in range, a known edition, room for it
abbrev pub judge_crate : Bool → Bool → Bool → Snapshot → Next
judge_crate range edition room s = need range range_refusal (need edition edition_refusal (need room count_refusal (on s)))

-- the snapshot of twelve lists
abbrev lists : List Name → List Crate → List Dependency → List Map → List Module → List Child → List Prelude → List Definition → List Scope
    → List Import → List Extern → List Member → Snapshot
lists names crates dependencies maps modules children preludes definitions scopes imports externs members =
    record {
      names = names;
      crates = crates;
      dependencies = dependencies;
      maps = maps;
      modules = modules;
      children = children;
      preludes = preludes;
      definitions = definitions;
      scopes = scopes;
      imports = imports;
      externs = externs;
      members = members;
    }

-- the snapshot with one record more

abbrev pub add_name : Snapshot → Name → Snapshot
add_name s x =
    lists (s.names ++ (x ∷ [])) s.crates s.dependencies s.maps s.modules s.children s.preludes s.definitions s.scopes
    s.imports s.externs s.members

abbrev pub add_crate : Snapshot → Crate → Snapshot
add_crate s x =
    lists s.names (s.crates ++ (x ∷ [])) s.dependencies s.maps s.modules s.children s.preludes s.definitions s.scopes
    s.imports s.externs s.members

abbrev pub add_dependency : Snapshot → Dependency → Snapshot
add_dependency s x =
    lists s.names s.crates (s.dependencies ++ (x ∷ [])) s.maps s.modules s.children s.preludes s.definitions s.scopes
    s.imports s.externs s.members

abbrev pub add_map : Snapshot → Map → Snapshot
add_map s x =
    lists s.names s.crates s.dependencies (s.maps ++ (x ∷ [])) s.modules s.children s.preludes s.definitions s.scopes
    s.imports s.externs s.members

abbrev pub add_module : Snapshot → Module → Snapshot
add_module s x =
    lists s.names s.crates s.dependencies s.maps (s.modules ++ (x ∷ [])) s.children s.preludes s.definitions s.scopes
    s.imports s.externs s.members

abbrev pub add_child : Snapshot → Child → Snapshot
add_child s x =
    lists s.names s.crates s.dependencies s.maps s.modules (s.children ++ (x ∷ [])) s.preludes s.definitions s.scopes
    s.imports s.externs s.members

abbrev pub add_prelude : Snapshot → Prelude → Snapshot
add_prelude s x =
    lists s.names s.crates s.dependencies s.maps s.modules s.children (s.preludes ++ (x ∷ [])) s.definitions s.scopes
    s.imports s.externs s.members

abbrev pub add_definition : Snapshot → Definition → Snapshot
add_definition s x =
    lists s.names s.crates s.dependencies s.maps s.modules s.children s.preludes (s.definitions ++ (x ∷ [])) s.scopes
    s.imports s.externs s.members

abbrev pub add_scope : Snapshot → Scope → Snapshot
add_scope s x =
    lists s.names s.crates s.dependencies s.maps s.modules s.children s.preludes s.definitions (s.scopes ++ (x ∷ []))
    s.imports s.externs s.members

abbrev pub add_import : Snapshot → Import → Snapshot
add_import s x =
    lists s.names s.crates s.dependencies s.maps s.modules s.children s.preludes s.definitions s.scopes
    (s.imports ++ (x ∷ [])) s.externs s.members

abbrev pub add_extern : Snapshot → Extern → Snapshot
add_extern s x =
    lists s.names s.crates s.dependencies s.maps s.modules s.children s.preludes s.definitions s.scopes
    s.imports (s.externs ++ (x ∷ [])) s.members

abbrev pub add_member : Snapshot → Member → Snapshot
add_member s x =
    lists s.names s.crates s.dependencies s.maps s.modules s.children s.preludes s.definitions s.scopes
    s.imports s.externs (s.members ++ (x ∷ []))

-- the kinds

unfoldable pub name_step : Snapshot → Name → Next
name_step s x = judge (name_range x) true (any (same_name x) s.names) true (ltb (length s.names) name_limit) (add_name s x)

unfoldable pub crate_step : Snapshot → Crate → Next
crate_step s x = judge_crate (crate_range x) (is_edition x.edition) (ltb (length s.crates) crate_limit) (add_crate s x)

unfoldable pub dependency_step : Snapshot → Dependency → Next
dependency_step s x = judge (dependency_range x) (dependency_defined (counts_of s) x) false true true (add_dependency s x)

unfoldable pub map_step : Snapshot → Map → Next
map_step s x = judge (map_range x) (map_defined (counts_of s) x) (map_repeated s x) (map_placed s x) true (add_map s x)

unfoldable pub module_step : Snapshot → Module → Next
module_step s x =
    judge true (module_defined (counts_of s) x) false (module_placed s x) (ltb (length s.modules) module_limit) (add_module s x)

unfoldable pub child_step : Snapshot → Child → Next
child_step s x = judge true (child_defined (counts_of s) x) (any (same_child x) s.children) (child_placed s x) true (add_child s x)

unfoldable pub prelude_step : Snapshot → Prelude → Next
prelude_step s x = judge true (prelude_defined (counts_of s) x) (any (same_prelude x) s.preludes) true true (add_prelude s x)

unfoldable pub definition_step : Snapshot → Definition → Next
definition_step s x =
    judge (definition_range s x) (definition_defined (counts_of s) x) (definition_repeated s x) (definition_placed s x)
    (ltb (length s.definitions) definition_limit) (add_definition s x)

unfoldable pub scope_step : Snapshot → Scope → Next
scope_step s x =
    judge (scope_range x) (scope_defined (counts_of s) x) (any (same_entry x) s.scopes) (ns_placed s x.ns x.definition) true
    (add_scope s x)

unfoldable pub import_step : Snapshot → Import → Next
import_step s x =
    judge (import_range x) (import_defined (counts_of s) x) false (ns_placed s x.ns x.definition) true (add_import s x)

unfoldable pub extern_step : Snapshot → Extern → Next
extern_step s x = judge true (extern_defined (counts_of s) x) (any (same_extern x) s.externs) true true (add_extern s x)

unfoldable pub member_step : Snapshot → Member → Next
member_step s x = judge (member_range x) (member_defined (counts_of s) x) false (member_placed s x) true (add_member s x)
