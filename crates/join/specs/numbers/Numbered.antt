-- The tables of the moved numbers, in the work area past the tables of the check.
use Rattle.std.specs.Prelude.{ℕ, ◌+◌, ◌≤◌, ◌<◌, ◌≡◌, List, Bool, true, false, ◌&&◌, eqb, ltb, length, get_or}
use Rattle.snapshot.specs.Limits.{name_limit}
use Rattle.snapshot.specs.Records.{Definition, Snapshot}
use Rattle.snapshot.specs.Layouts.{table_words}
use Rattle.check_rules.specs.Tests.{same_name}
use Rattle.hir_def.specs.Finds.{select}
use Rattle.join.specs.declared.numbers.tables.New.{New}
use Rattle.join_rules.specs.Joined.{is_new, name_number, same_builtin, definition_number}

-- the first word of each: a word a name of the second, a word a definition of the second

abbrev pub name_table : ℕ
name_table = table_words

abbrev pub definition_table : ℕ
definition_table = name_table + name_limit

-- the n words from a place on are the values of f
abbrev pub Holds : List ℕ → ℕ → (ℕ → ℕ) → ℕ → Type 0
Holds A at f n = (i : ℕ) → i < n → get_or A (at + i) 0 ≡ f i

-- the numbers of the second's names and definitions in the joined snapshot
pub record NumbersIn (s t : Snapshot) (A : List ℕ) : Type 0 where
  pub names : Holds A name_table (name_number s t) (length t.names)
  pub definitions : Holds A definition_table (definition_number s t) (length t.definitions)

-- how many names and definitions of the second are new

abbrev pub new_names : Snapshot → Snapshot → ℕ
new_names s t = length (select (is_new same_name s.names) t.names)

abbrev pub new_definitions : Snapshot → Snapshot → ℕ
new_definitions s t = length (select (is_new (same_builtin s t) s.definitions) t.definitions)

-- a builtin of the first with a name
abbrev pub is_named : ℕ → Definition → Bool
is_named name x = eqb x.kind 3 && eqb name x.first

-- an element found at a place among the first's keeps that number; one that is past them gets the next new number

abbrev pub number_by : ℕ → ℕ → ℕ → ℕ
number_by old place fresh = elim (ltb place old) [ true ↦ place | false ↦ old + fresh ]

abbrev pub fresh_by : ℕ → ℕ → ℕ → ℕ
fresh_by old place fresh = elim (ltb place old) [ true ↦ fresh | false ↦ fresh + 1 ]

-- the n words from a place on became the values of f; the others stay
pub record Filled (A B : List ℕ) (at : ℕ) (f : ℕ → ℕ) (n : ℕ) : Type 0 where
  pub size : length B ≡ length A
  pub table : Holds B at f n
  pub below : (i : ℕ) → i < at → get_or B i 0 ≡ get_or A i 0
  pub above : (i : ℕ) → at + n ≤ i → get_or B i 0 ≡ get_or A i 0

-- what the functions that fill a table promise: the table, and how many are new

pub record NamesNumbered (s t : Snapshot) (A B : List ℕ) (r : ℕ) : Type 0 where
  pub filled : Filled A B name_table (name_number s t) (length t.names)
  pub new : r ≡ new_names s t

pub record DefinitionsNumbered (s t : Snapshot) (A B : List ℕ) (r : ℕ) : Type 0 where
  pub filled : Filled A B definition_table (definition_number s t) (length t.definitions)
  pub new : r ≡ new_definitions s t

-- both tables; the words of the check's tables stay
pub record Numbered (s t : Snapshot) (A B : List ℕ) (r : New) : Type 0 where
  pub numbers : NumbersIn s t B
  pub names : r.names ≡ new_names s t
  pub definitions : r.definitions ≡ new_definitions s t
  pub size : length B ≡ length A
  pub below : (i : ℕ) → i < table_words → get_or B i 0 ≡ get_or A i 0
