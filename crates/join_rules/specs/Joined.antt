-- Two snapshots joined: the first's records stay, the second's follow with their numbers moved; equal name texts are one name, equal
-- builtins one definition.
use Rattle.std.specs.Prelude.{ℕ, zero, suc, ◌+◌, List, [], ◌∷◌, ◌++◌, map, Bool, true, false, ◌&&◌, not, eqb, leb, ltb, length, get_or, take}
use Rattle.snapshot.specs.Lists.{any}
use Rattle.snapshot.specs.Limits.{word_limit, crate_limit, module_limit, name_limit, definition_limit, area_limit}
use Rattle.snapshot.specs.Refusals.{area_refusal, join_refusal}
use Rattle.snapshot.specs.Sizes.{definition_size, scope_size, import_size, extern_size}
use Rattle.snapshot.specs.Records.{Dependency, Map, Module, Child, Prelude, Definition, Scope, Import, Extern, Member, Snapshot}
use Rattle.check_rules.specs.Tests.{no_name, no_definition, same_name}
use Rattle.check_rules.specs.Verdict.{Verdict, refuse, accept, verdict}
use Rattle.hir_def.specs.Finds.{place_of, select}
use Rattle.find_path_spec.specs.declared.Question.{Question}
use Rattle.edit_rules.specs.Entries.{moved_scope, moved_import, moved_extern}
use Rattle.edit_rules.specs.Written.{kinds_words, snapshot_words}
use Rattle.edit_rules.specs.Written as written

-- lists that are merged

-- an element of ys that xs has not; the test is given an element of ys and one of xs
abbrev pub is_new : {A : Type 0} → (A → A → Bool) → List A → A → Bool
is_new same xs y = not (any (same y) xs)

-- xs, then the elements of ys that it has not
unfoldable pub merged : {A : Type 0} → (A → A → Bool) → List A → List A → List A
merged same xs ys = xs ++ select (is_new same xs) ys

-- the number in the merged list of element n of ys: that of the same element of xs, or the next one after xs and the new ones before it
unfoldable pub merged_number : {A : Type 0} → (A → A → Bool) → A → List A → List A → ℕ → ℕ
merged_number same d xs ys n =
    elim (is_new same xs (get_or ys n d)) [
      | true ↦ length xs + length (select (is_new same xs) (take n ys))
      | false ↦ place_of (same (get_or ys n d)) 0 xs
    ]

-- new numbers

-- where the numbers of a part go
pub record Numbers : Type 0 where
  pub crates : ℕ → ℕ
  pub maps : ℕ → ℕ
  pub modules : ℕ → ℕ
  pub names : ℕ → ℕ
  pub definitions : ℕ → ℕ

-- the first part's stay
abbrev pub first_numbers : Numbers
first_numbers = record { crates = λ n. n; maps = λ n. n; modules = λ n. n; names = λ n. n; definitions = λ n. n }

-- the number of a name of t
unfoldable pub name_number : Snapshot → Snapshot → ℕ → ℕ
name_number s t n = merged_number same_name no_name s.names t.names n

-- a builtin of t and one of s with its name
abbrev pub same_builtin : Snapshot → Snapshot → Definition → Definition → Bool
same_builtin s t y x = eqb y.kind 3 && eqb x.kind 3 && eqb (name_number s t y.first) x.first

-- the number of a definition of t
unfoldable pub definition_number : Snapshot → Snapshot → ℕ → ℕ
definition_number s t n = merged_number (same_builtin s t) no_definition s.definitions t.definitions n

-- the second part's: crates, maps and modules follow the first's
abbrev pub second_numbers : Snapshot → Snapshot → Numbers
second_numbers s t =
    record {
      crates = λ n. length s.crates + n;
      maps = λ n. length s.maps + n;
      modules = λ n. length s.modules + n;
      names = name_number s t;
      definitions = definition_number s t;
    }

-- records with their numbers moved; crates have none

-- a number +1, 0 for none
abbrev pub or_none : (ℕ → ℕ) → ℕ → ℕ
or_none f zero = 0
or_none f (suc n) = suc (f n)

abbrev pub dependency_to : Numbers → Dependency → Dependency
dependency_to e x = record { owner = e.crates x.owner; crate = e.crates x.crate; sysroot = x.sysroot }

abbrev pub map_to : Numbers → Map → Map
map_to e x = record { crate = e.crates x.crate; block = or_none e.modules x.block; no_std = x.no_std }

abbrev pub module_to : Numbers → Module → Module
module_to e x = record { map = e.maps x.map; parent = or_none e.modules x.parent }

abbrev pub child_to : Numbers → Child → Child
child_to e x = record { owner = e.modules x.owner; child = e.modules x.child }

abbrev pub prelude_to : Numbers → Prelude → Prelude
prelude_to e x = record { map = e.maps x.map; target = e.modules x.target }

-- a variant has a parent and a name, a builtin a name, every other definition a module
abbrev pub first_to : Numbers → Definition → ℕ
first_to e x =
    elim (eqb x.kind 2) [
      | true ↦ e.definitions x.first
      | false ↦ elim (eqb x.kind 3) [ true ↦ e.names x.first | false ↦ e.modules x.first ]
    ]

abbrev pub second_to : Numbers → Definition → ℕ
second_to e x = elim (eqb x.kind 2) [ true ↦ e.names x.second | false ↦ x.second ]

abbrev pub definition_to : Numbers → Definition → Definition
definition_to e x = record { kind = x.kind; first = first_to e x; second = second_to e x; place = x.place }

-- the number of a visibility: none, a crate's, or a module's
abbrev pub visible_to : Numbers → ℕ → ℕ → ℕ
visible_to e v n = elim (eqb v 0) [ true ↦ n | false ↦ elim (eqb v 1) [ true ↦ e.crates n | false ↦ e.modules n ] ]

abbrev pub scope_to : Numbers → Scope → Scope
scope_to e x =
    record {
      owner = e.modules x.owner;
      ns = x.ns;
      name = e.names x.name;
      definition = e.definitions x.definition;
      visibility = x.visibility;
      number = visible_to e x.visibility x.number;
      declared = x.declared;
      bits = x.bits;
      place = x.place;
    }

abbrev pub import_to : Numbers → Import → Import
import_to e x =
    record {
      owner = e.crates x.owner;
      ns = x.ns;
      definition = e.definitions x.definition;
      name = e.names x.name;
      container = e.modules x.container;
      bits = x.bits;
      place = x.place;
    }

abbrev pub extern_to : Numbers → Extern → Extern
extern_to e x = record { owner = e.crates x.owner; name = e.names x.name; target = e.modules x.target; place = x.place }

abbrev pub member_to : Numbers → Member → Member
member_to e x =
    record {
      parent = e.definitions x.parent;
      name = e.names x.name;
      definition = e.definitions x.definition;
      kind = x.kind;
      bits = x.bits;
    }

-- the records of both, those of the second moved; none has its place yet
unfoldable pub together : Snapshot → Snapshot → Snapshot
together s t =
    let e = second_numbers s t in
    record {
      names = merged same_name s.names t.names;
      crates = s.crates ++ t.crates;
      dependencies = s.dependencies ++ map (dependency_to e) t.dependencies;
      maps = s.maps ++ map (map_to e) t.maps;
      modules = s.modules ++ map (module_to e) t.modules;
      children = s.children ++ map (child_to e) t.children;
      preludes = s.preludes ++ map (prelude_to e) t.preludes;
      definitions = s.definitions ++ map (definition_to e) (select (is_new (same_builtin s t) s.definitions) t.definitions);
      scopes = s.scopes ++ map (scope_to e) t.scopes;
      imports = s.imports ++ map (import_to e) t.imports;
      externs = s.externs ++ map (extern_to e) t.externs;
      members = s.members ++ map (member_to e) t.members;
    }

-- places

-- records of so many words, one after the other from a place on; put sets the place of one
unfoldable pub placed_by : {A : Type 0} → (ℕ → A → A) → ℕ → ℕ → List A → List A
placed_by put size at [] = []
placed_by put size at (x ∷ xs) = put at x ∷ placed_by put size (at + size) xs

abbrev pub definition_put : ℕ → Definition → Definition
definition_put at x = record { kind = x.kind; first = x.first; second = x.second; place = at }

-- where the words of a kind begin: those of n kinds stand before it
abbrev pub kind_base : Snapshot → ℕ → ℕ
kind_base u n = length (written.joined (take n (kinds_words u)))

-- a snapshot with each record at the place where it is written
unfoldable pub placed : Snapshot → Snapshot
placed u =
    record {
      names = u.names;
      crates = u.crates;
      dependencies = u.dependencies;
      maps = u.maps;
      modules = u.modules;
      children = u.children;
      preludes = u.preludes;
      definitions = placed_by definition_put definition_size (kind_base u 6) u.definitions;
      scopes = placed_by (λ at. moved_scope (λ n. at)) scope_size (kind_base u 7) u.scopes;
      imports = placed_by (λ at. moved_import (λ n. at)) import_size (kind_base u 8) u.imports;
      externs = placed_by (λ at. moved_extern (λ n. at)) extern_size (kind_base u 9) u.externs;
      members = u.members;
    }

-- Two snapshots joined, and the words of the result.

abbrev pub joined : Snapshot → Snapshot → Snapshot
joined s t = placed (together s t)

abbrev pub joined_words : Snapshot → Snapshot → List ℕ
joined_words s t = snapshot_words (together s t)

-- a question put with its numbers moved
abbrev pub question_to : Numbers → Question → Question
question_to e q =
    record {
      query =
          record {
            ns = q.query.ns;
            definition = record { 0 = e.definitions q.query.definition.0 };
            from = record { 0 = e.modules q.query.from.0 };
            prefix = q.query.prefix;
            options = q.query.options;
            limit = q.query.limit;
          };
      fuel = q.fuel;
    }

-- what a call comes to

-- no limit of a snapshot is passed
abbrev pub is_within : Snapshot → Bool
is_within u =
    leb (length (snapshot_words u)) word_limit
    && leb (length u.names) name_limit
    && leb (length u.crates) crate_limit
    && leb (length u.modules) module_limit
    && leb (length u.definitions) definition_limit

pub data Joining : Type 0 where
  refused_by : ℕ → Joining
  joined_as : List ℕ → Joining

-- for a target of so many words
unfoldable pub join_in : ℕ → Snapshot → Snapshot → Joining
join_in room s t =
    elim (is_within (together s t) && leb (length (joined_words s t)) room) [ true ↦ joined_as (joined_words s t) | false ↦ refused_by join_refusal ]

unfoldable pub join_by : ℕ → Verdict → Verdict → Joining
join_by room (refuse n at) v = refused_by n
join_by room (accept s) (refuse n at) = refused_by n
join_by room (accept s) (accept t) = join_in room s t

-- The same with a work area of so many words. The refusals come in the order 20, 30 to 36 and 43 of the first, then of the second, 51.
unfoldable pub join_of : ℕ → List ℕ → List ℕ → ℕ → Joining
join_of area W X room = elim (ltb area area_limit) [ true ↦ refused_by area_refusal | false ↦ join_by room (verdict W) (verdict X) ]
