-- The words of a snapshot written afresh: kind after kind, but each map before its modules.
use Rattle.std.specs.Prelude.{ℕ, ◌+◌, ◌*◌, List, [], ◌∷◌, ◌++◌, true, false}
use Rattle.snapshot.specs.Records.{Name, Crate, Dependency, Map, Module, Child, Prelude, Definition, Scope, Import, Extern, Member, Snapshot}
use Rattle.check_rules.specs.Tests.{is_in}
use Rattle.edit_rules.specs.Entries.{scope_words, with_lists}

-- the head of a record
abbrev pub head_of : ℕ → ℕ → ℕ
head_of kind payload = kind * 268435456 + payload

-- the words of a record

abbrev pub name_words : Name → List ℕ
name_words x = head_of 1 x.bytes ∷ x.text

abbrev pub crate_words : Crate → List ℕ
crate_words x = head_of 2 (x.origin + 8 * x.no_std) ∷ x.edition ∷ []

abbrev pub dependency_words : Dependency → List ℕ
dependency_words x = head_of 3 x.owner ∷ x.crate ∷ x.sysroot ∷ []

abbrev pub map_words : Map → List ℕ
map_words x = head_of 4 x.crate ∷ x.block ∷ x.no_std ∷ []

abbrev pub module_words : Module → List ℕ
module_words x = head_of 5 x.map ∷ x.parent ∷ []

abbrev pub child_words : Child → List ℕ
child_words x = head_of 6 x.owner ∷ x.child ∷ []

abbrev pub prelude_words : Prelude → List ℕ
prelude_words x = head_of 7 x.map ∷ x.target ∷ []

abbrev pub definition_words : Definition → List ℕ
definition_words x = head_of 8 x.kind ∷ x.first ∷ x.second ∷ []

abbrev pub import_words : Import → List ℕ
import_words x = head_of 10 x.owner ∷ x.ns ∷ x.definition ∷ x.name ∷ x.container ∷ x.bits ∷ []

abbrev pub extern_words : Extern → List ℕ
extern_words x = head_of 11 x.owner ∷ x.name ∷ x.target ∷ []

abbrev pub member_words : Member → List ℕ
member_words x = head_of 13 x.parent ∷ x.name ∷ x.definition ∷ x.kind ∷ x.bits ∷ []

-- the words of a list's records, one after the other
unfoldable pub each_words : {A : Type 0} → (A → List ℕ) → List A → List ℕ
each_words f [] = []
each_words f (x ∷ xs) = f x ++ each_words f xs

-- those of a module of map k, none of another's
abbrev pub words_within : ℕ → Module → List ℕ
words_within k x = elim (is_in k x) [ true ↦ module_words x | false ↦ [] ]

-- the maps, numbered from k, each before its modules
unfoldable pub tree_words : ℕ → List Map → List Module → List ℕ
tree_words k [] xs = []
tree_words k (m ∷ ms) xs = map_words m ++ (each_words (words_within k) xs ++ tree_words (k + 1) ms xs)

-- the words of each kind, in the order of kinds; maps and modules are one
abbrev pub kinds_words : Snapshot → List (List ℕ)
kinds_words s =
    each_words name_words s.names
    ∷ each_words crate_words s.crates
    ∷ each_words dependency_words s.dependencies
    ∷ tree_words 0 s.maps s.modules
    ∷ each_words child_words s.children
    ∷ each_words prelude_words s.preludes
    ∷ each_words definition_words s.definitions
    ∷ each_words scope_words s.scopes
    ∷ each_words import_words s.imports
    ∷ each_words extern_words s.externs
    ∷ each_words member_words s.members
    ∷ []

unfoldable pub joined : List (List ℕ) → List ℕ
joined [] = []
joined (w ∷ ws) = w ++ joined ws

-- The words of a snapshot. No place of a record counts.
unfoldable pub snapshot_words : Snapshot → List ℕ
snapshot_words s = joined (kinds_words s)

-- the same with other scope entries
abbrev pub words_with : Snapshot → List Scope → List ℕ
words_with s xs = snapshot_words (with_lists s xs s.imports s.externs)
