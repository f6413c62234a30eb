-- What `collect_import_map` of import_map.rs adds for a crate, in the order in which it adds it.
use Rattle.std.specs.Prelude.{ℕ, zero, suc, ◌+◌, List, [], ◌∷◌, ◌++◌, map, Bool, true, false, ◌&&◌, ◌||◌, not, eqb, ltb, length}
use Rattle.snapshot.specs.Lists.{any}
use Rattle.snapshot.specs.Records.{Snapshot, Scope, Import, Member}
use Rattle.hir_def.specs.Finds.{select}
use Rattle.hir_def.specs.Items.{types, module_kind, definition_of, root_of, own_map}
use Rattle.find_path_spec.specs.Line.{text_of}

-- `Name`'s order: byte by byte; a text stands before one that goes on
unfoldable pub text_before : List ℕ → List ℕ → Bool
text_before [] [] = false
text_before [] (y ∷ ys) = true
text_before (x ∷ xs) [] = false
text_before (x ∷ xs) (y ∷ ys) = ltb x y || eqb x y && text_before xs ys

-- by a text, then types, values, macros
abbrev pub key_before : List ℕ → ℕ → List ℕ → ℕ → Bool
key_before a m b n = text_before a b || not (text_before b a) && ltb m n

-- the order of a scope's entries (`ItemScope::entries`, `PerNs::iter_items`)
unfoldable pub entry_before : Snapshot → Scope → Scope → Bool
entry_before s x y = key_before (text_of s x.name) x.ns (text_of s y.name) y.ns

-- an element put before the first that it stands before
unfoldable pub insert_by : {A : Type 0} → (A → A → Bool) → A → List A → List A
insert_by before x [] = x ∷ []
insert_by before x (y ∷ ys) = elim (before x y) [ true ↦ x ∷ y ∷ ys | false ↦ y ∷ insert_by before x ys ]

-- the elements of a list put one after the other into another
unfoldable pub sort_into : {A : Type 0} → (A → A → Bool) → List A → List A → List A
sort_into before ys [] = ys
sort_into before ys (x ∷ xs) = sort_into before (insert_by before x ys) xs

abbrev pub is_public_in : ℕ → Scope → Bool
is_public_in m e = eqb e.owner m && eqb e.visibility 0

-- the public entries of a module, in order
unfoldable pub entries_of : Snapshot → ℕ → List Scope
entries_of s m = sort_into (entry_before s) [] (select (is_public_in m) s.scopes)

-- the modules that entries name, put on a pile one after the other: the last is on top
unfoldable pub piled : Snapshot → List Scope → List ℕ → List ℕ
piled s [] ws = ws
piled s (e ∷ es) ws =
    piled s es
    (elim (eqb (definition_of s e.definition).kind module_kind) [ true ↦ (definition_of s e.definition).first ∷ ws | false ↦ ws ])

-- The modules as they are taken from the pile, each once; seen are those taken before. Each turn takes one from the pile, and an entry
-- is put on it once at most, so as many turns as there are entries, and one, are enough (`visits-more`).
unfoldable pub visits : ℕ → Snapshot → List ℕ → List ℕ → List ℕ
visits zero s seen ws = []
visits (suc n) s seen [] = []
visits (suc n) s seen (m ∷ ws) =
    elim (any (eqb m) seen)
    [ true ↦ visits n s seen ws | false ↦ m ∷ visits n s (m ∷ seen) (piled s (entries_of s m) ws) ]

-- from the crate's root
unfoldable pub modules_from : Snapshot → ℕ → List ℕ
modules_from s c = visits (length s.scopes + 1) s [] (root_of s (own_map s c) ∷ [])

-- a member of the definition d, but for type aliases
abbrev pub is_member_of : ℕ → Member → Bool
is_member_of d x = eqb x.parent d && not (eqb x.kind 3)

-- a variant in types (`collect_enum_variants`), another member in the namespace of its parent's entry (`collect_trait_assoc_items`)
unfoldable pub member_ns : ℕ → ℕ → ℕ
member_ns ns kind = elim (eqb kind 0) [ true ↦ types | false ↦ ns ]

-- a new import has no place yet

abbrev pub member_import : ℕ → Scope → Member → Import
member_import c e x =
    record {
      owner = c;
      ns = member_ns e.ns x.kind;
      definition = x.definition;
      name = x.name;
      container = e.owner;
      bits = x.bits;
      place = 0;
    }

abbrev pub entry_import : ℕ → Scope → Import
entry_import c e =
    record { owner = c; ns = e.ns; definition = e.definition; name = e.name; container = e.owner; bits = e.bits; place = 0 }

-- an entry adds its definition's members, in record order, and then itself; a macro has no members, since a parent is of kind 4
unfoldable pub imports_of : Snapshot → ℕ → Scope → List Import
imports_of s c e = map (member_import c e) (select (is_member_of e.definition) s.members) ++ (entry_import c e ∷ [])

unfoldable pub imports_in : Snapshot → ℕ → List Scope → List Import
imports_in s c [] = []
imports_in s c (e ∷ es) = imports_of s c e ++ imports_in s c es

unfoldable pub imports_over : Snapshot → ℕ → List ℕ → List Import
imports_over s c [] = []
imports_over s c (m ∷ ms) = imports_in s c (entries_of s m) ++ imports_over s c ms

-- what is added for the crate c
unfoldable pub collected : Snapshot → ℕ → List Import
collected s c = imports_over s c (modules_from s c)

-- an import as words
abbrev pub import_words : Import → List ℕ
import_words x = (0xA0000000 + x.owner) ∷ x.ns ∷ x.definition ∷ x.name ∷ x.container ∷ x.bits ∷ []

-- the words of imports, one after the other
unfoldable pub words_of : List Import → List ℕ
words_of [] = []
words_of (x ∷ xs) = import_words x ++ words_of xs
