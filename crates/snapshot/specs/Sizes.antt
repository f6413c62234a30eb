-- The words of a record and of a question: a head and arguments.
use Rattle.std.specs.Prelude.{ℕ, ◌-◌, List, [], ◌∷◌, true, false, eqb, get_or}
use Rattle.snapshot.specs.reading.Words.{kind_of, pay_of, words_of}

-- the words of a record of each kind; a name's depend on its text

abbrev pub crate_size : ℕ
crate_size = 2

abbrev pub dependency_size : ℕ
dependency_size = 3

abbrev pub map_size : ℕ
map_size = 3

abbrev pub module_size : ℕ
module_size = 2

abbrev pub child_size : ℕ
child_size = 2

abbrev pub prelude_size : ℕ
prelude_size = 2

abbrev pub definition_size : ℕ
definition_size = 3

abbrev pub scope_size : ℕ
scope_size = 8

abbrev pub import_size : ℕ
import_size = 6

abbrev pub extern_size : ℕ
extern_size = 3

abbrev pub member_size : ℕ
member_size = 5

-- the words of a question, and of one for a reach

abbrev pub question_size : ℕ
question_size = 7

abbrev pub reach_size : ℕ
reach_size = 5

-- the arguments of a record of each kind, all its words but the head: none of kinds 0 and 12; a name's are its text
abbrev pub argument_table : List ℕ
argument_table =
    0
    ∷ 0
    ∷ (crate_size - 1)
    ∷ (dependency_size - 1)
    ∷ (map_size - 1)
    ∷ (module_size - 1)
    ∷ (child_size - 1)
    ∷ (prelude_size - 1)
    ∷ (definition_size - 1)
    ∷ (scope_size - 1)
    ∷ (import_size - 1)
    ∷ (extern_size - 1)
    ∷ 0
    ∷ (member_size - 1)
    ∷ []

-- the arguments of a record with that kind and payload
unfoldable pub arguments_of : ℕ → ℕ → ℕ
arguments_of k p = elim (eqb k 1) [ true ↦ words_of p | false ↦ get_or argument_table k 0 ]

-- the arguments of the record with its head at a place
abbrev pub arguments_at : List ℕ → ℕ → ℕ
arguments_at W at = arguments_of (kind_of (get_or W at 0)) (pay_of (get_or W at 0))
