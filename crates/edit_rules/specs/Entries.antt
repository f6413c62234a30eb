-- Entries of scopes as words, and where they stand in a snapshot's words.
use Rattle.std.specs.Prelude.{ℕ, zero, suc, ◌+◌, ◌*◌, ◌-◌, List, [], ◌∷◌, ◌++◌, map, Bool, true, false, ◌&&◌, not, eqb, ltb, length, get_or, take}
use Rattle.std.specs.Prelude.{drop}
use Rattle.snapshot.specs.Words.{kind_of, arguments_at}
use Rattle.snapshot.specs.Sizes.{scope_size}
use Rattle.snapshot.specs.Records.{Scope, Import, Extern, Snapshot, scope_at}

-- the kind of a scope record
abbrev pub scope_kind : ℕ
scope_kind = 9

-- an entry that comes in as words, a word a field: module, namespace, name, definition, visibility and its number, declared, bits; its
-- place is known when it is written
abbrev pub entry_of : List ℕ → Scope
entry_of e =
    record {
      owner = get_or e 0 0;
      ns = get_or e 1 0;
      name = get_or e 2 0;
      definition = get_or e 3 0;
      visibility = get_or e 4 0;
      number = get_or e 5 0;
      declared = get_or e 6 0;
      bits = get_or e 7 0;
      place = 0;
    }

-- the words of an entry's record
unfoldable pub scope_words : Scope → List ℕ
scope_words x =
    (scope_kind * 268435456 + x.owner)
    ∷ x.ns
    ∷ x.name
    ∷ x.definition
    ∷ x.visibility
    ∷ x.number
    ∷ x.declared
    ∷ x.bits
    ∷ []

-- the entry of a module, a namespace and a name
abbrev pub is_named : ℕ → ℕ → ℕ → Scope → Bool
is_named m ns name x = eqb m x.owner && eqb ns x.ns && eqb name x.name

-- where a record goes whose place is n, by a record put in before it or taken out
abbrev pub higher : ℕ → ℕ
higher n = n + scope_size

abbrev pub lower : ℕ → ℕ
lower n = n - scope_size

-- a record at another place

abbrev pub moved_scope : (ℕ → ℕ) → Scope → Scope
moved_scope f x =
    record {
      owner = x.owner;
      ns = x.ns;
      name = x.name;
      definition = x.definition;
      visibility = x.visibility;
      number = x.number;
      declared = x.declared;
      bits = x.bits;
      place = f x.place;
    }

abbrev pub moved_import : (ℕ → ℕ) → Import → Import
moved_import f x =
    record {
      owner = x.owner;
      ns = x.ns;
      definition = x.definition;
      name = x.name;
      container = x.container;
      bits = x.bits;
      place = f x.place;
    }

abbrev pub moved_extern : (ℕ → ℕ) → Extern → Extern
moved_extern f x = record { owner = x.owner; name = x.name; target = x.target; place = f x.place }

-- the entry at a place
abbrev pub placed : ℕ → Scope → Scope
placed at = moved_scope (λ n. at)

-- the same lists, but for the scopes, the imports and the externs
abbrev pub with_lists : Snapshot → List Scope → List Import → List Extern → Snapshot
with_lists s xs is es =
    record {
      names = s.names;
      crates = s.crates;
      dependencies = s.dependencies;
      maps = s.maps;
      modules = s.modules;
      children = s.children;
      preludes = s.preludes;
      definitions = s.definitions;
      scopes = xs;
      imports = is;
      externs = es;
      members = s.members;
    }

-- the same lists, but for the scopes and the places of the imports and the externs, which stand after them
abbrev pub with_scopes : (ℕ → ℕ) → Snapshot → List Scope → Snapshot
with_scopes f s xs = with_lists s xs (map (moved_import f) s.imports) (map (moved_extern f) s.externs)

-- the list without the first element that passes the test; those after it stand lower
unfoldable pub without : (Scope → Bool) → List Scope → List Scope
without t [] = []
without t (x ∷ xs) = elim (t x) [ true ↦ map (moved_scope lower) xs | false ↦ x ∷ without t xs ]

-- the place of the first record, from a place on, at whose head the test holds, or the end; n is at least the number of words left
unfoldable pub first_from : (ℕ → Bool) → ℕ → List ℕ → ℕ → ℕ
first_from stop zero W at = at
first_from stop (suc n) W at =
    elim (ltb at (length W) && not (stop at)) [ true ↦ first_from stop n W (at + 1 + arguments_at W at) | false ↦ at ]

-- a record of a kind higher than that of scopes
abbrev pub is_later : List ℕ → ℕ → Bool
is_later W at = ltb scope_kind (kind_of (get_or W at 0))

-- Kinds stand in order, so this is the end of the last scope record; where there is none, the first record of a higher kind, or the end.
unfoldable pub scopes_end : List ℕ → ℕ
scopes_end W = first_from (is_later W) (length W) W 0

-- a scope record whose entry passes the test
abbrev pub is_entry : (Scope → Bool) → List ℕ → ℕ → Bool
is_entry t W at = eqb (kind_of (get_or W at 0)) scope_kind && t (scope_at W at)

-- the place of the first scope record whose entry passes the test, or the end
unfoldable pub entry_place : (Scope → Bool) → List ℕ → ℕ
entry_place t W = first_from (is_entry t W) (length W) W 0

-- words put in at a place, and n words taken out there
abbrev pub inserted : ℕ → List ℕ → List ℕ → List ℕ
inserted p E W = take p W ++ (E ++ drop p W)

abbrev pub cut : ℕ → ℕ → List ℕ → List ℕ
cut p n W = take p W ++ drop (p + n) W
