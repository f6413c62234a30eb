-- The second's records with their numbers moved, read off its words; and the words of a join, kind by kind. Only contracts of inner
-- functions and proofs cite it.
use Rattle.std.specs.Prelude.{ℕ, zero, suc, ◌+◌, ◌-◌, ◌*◌, List, [], ◌∷◌, ◌++◌, Bool, true, false, eqb, leb, ltb, get_or}
use Rattle.snapshot.specs.Lists.{rows}
use Rattle.snapshot.specs.Words.{kind_of, pay_of, arguments_at}
use Rattle.snapshot.specs.Records.{Definition}
use Rattle.snapshot.specs.Layouts.{crate_base, dependency_base, map_base, child_base, prelude_base, definition_base, scope_base, import_base}
use Rattle.snapshot.specs.Layouts.{extern_base}
use Rattle.snapshot.specs.Layouts.{member_base, word_count}
use Rattle.snapshot.specs.declared.layout.Layout.{Layout}
use Rattle.edit_rules.specs.Written.{head_of, joined}
use Rattle.join.specs.numbers.Numbered.{name_table, definition_table}
use Rattle.join_rules.specs.Joined.{Numbers, or_none, first_to, second_to, visible_to}
use Rattle.join.specs.declared.numbers.inputs.Parts.{Parts}
use Rattle.join.specs.declared.records.fields.Moving.{Moving}

-- the numbers of the second, by its tables in the work area and the layout of the first
abbrev pub numbers_of : List ℕ → Layout → Numbers
numbers_of A l =
    record {
      crates = λ n. l.crates + n;
      maps = λ n. l.maps + n;
      modules = λ n. l.modules + n;
      names = λ n. get_or A (name_table + n) 0;
      definitions = λ n. get_or A (definition_table + n) 0;
    }

abbrev pub numbers_in : Moving → Numbers
numbers_in m = numbers_of m.area.now m.first

-- What a word of a record numbers: 0 nothing, 1 a crate, 2 a map, 3 a module, 4 a module +1 or none, 5 a name, 6 a definition, 7 and 8 what
-- the first and the second number of a definition do, by its kind, 9 what a visibility's does. Eight words a kind, the payload first, from kind 3 on.
abbrev pub role_table : List ℕ
role_table =
    1 ∷ 1 ∷ 0 ∷ 0 ∷ 0 ∷ 0 ∷ 0 ∷ 0
    ∷ 1 ∷ 4 ∷ 0 ∷ 0 ∷ 0 ∷ 0 ∷ 0 ∷ 0
    ∷ 2 ∷ 4 ∷ 0 ∷ 0 ∷ 0 ∷ 0 ∷ 0 ∷ 0
    ∷ 3 ∷ 3 ∷ 0 ∷ 0 ∷ 0 ∷ 0 ∷ 0 ∷ 0
    ∷ 2 ∷ 3 ∷ 0 ∷ 0 ∷ 0 ∷ 0 ∷ 0 ∷ 0
    ∷ 0 ∷ 7 ∷ 8 ∷ 0 ∷ 0 ∷ 0 ∷ 0 ∷ 0
    ∷ 3 ∷ 0 ∷ 5 ∷ 6 ∷ 0 ∷ 9 ∷ 0 ∷ 0
    ∷ 1 ∷ 0 ∷ 6 ∷ 5 ∷ 3 ∷ 0 ∷ 0 ∷ 0
    ∷ 1 ∷ 5 ∷ 3 ∷ 0 ∷ 0 ∷ 0 ∷ 0 ∷ 0
    ∷ 0 ∷ 0 ∷ 0 ∷ 0 ∷ 0 ∷ 0 ∷ 0 ∷ 0
    ∷ 6 ∷ 5 ∷ 6 ∷ 0 ∷ 0 ∷ 0 ∷ 0 ∷ 0
    ∷ []

-- of word i of a record of kind k; names and crates number nothing
unfoldable pub role_of : ℕ → ℕ → ℕ
role_of k i = elim (ltb k 3) [ true ↦ 0 | false ↦ elim (ltb i 8) [ true ↦ get_or role_table (8 * k + i - 24) 0 | false ↦ 0 ] ]

-- a definition of which one field is looked at
abbrev pub definition_of : ℕ → ℕ → Definition
definition_of p n = record { kind = p; first = n; second = n; place = 0 }

-- a word moved, in a record with that payload and that fourth argument
unfoldable pub field_to : Numbers → ℕ → ℕ → ℕ → ℕ → ℕ
field_to e p v role n =
    elim (eqb role 1) [
      | true ↦ e.crates n
      | false ↦ elim (eqb role 2) [
        | true ↦ e.maps n
        | false ↦ elim (eqb role 3) [
          | true ↦ e.modules n
          | false ↦ elim (eqb role 4) [
            | true ↦ or_none e.modules n
            | false ↦ elim (eqb role 5) [
              | true ↦ e.names n
              | false ↦ elim (eqb role 6) [
                | true ↦ e.definitions n
                | false ↦ elim (eqb role 7) [
                  | true ↦ first_to e (definition_of p n)
                  | false ↦ elim (eqb role 8) [
                    | true ↦ second_to e (definition_of p n)
                    | false ↦ elim (eqb role 9) [ true ↦ visible_to e v n | false ↦ n ]
                  ]
                ]
              ]
            ]
          ]
        ]
      ]
    ]

-- word i of the record with its head at a place, moved
unfoldable pub moved_word : Numbers → List ℕ → ℕ → ℕ → ℕ
moved_word e X at i =
    elim (eqb i 0) [
      | true ↦ head_of (kind_of (get_or X at 0)) (field_to e (pay_of (get_or X at 0)) (get_or X (at + 4) 0) (role_of (kind_of (get_or X at 0)) 0)
          (pay_of (get_or X at 0)))
      | false ↦ field_to e (pay_of (get_or X at 0)) (get_or X (at + 4) 0) (role_of (kind_of (get_or X at 0)) i) (get_or X (at + i) 0)
    ]

-- the words of that record, moved
abbrev pub moved_at : Numbers → List ℕ → ℕ → List ℕ
moved_at e X at = rows (moved_word e X at) 0 (1 + arguments_at X at)

-- whether record n of its kind is new: a name or a definition is that is numbered after the first's
unfoldable pub kept_at : List ℕ → Layout → List ℕ → ℕ → ℕ → Bool
kept_at A l X at n =
    elim (eqb (kind_of (get_or X at 0)) 1) [
      | true ↦ leb l.names (get_or A (name_table + n) 0)
      | false ↦ elim (eqb (kind_of (get_or X at 0)) 8) [ true ↦ leb l.definitions (get_or A (definition_table + n) 0) | false ↦ true ]
    ]

-- its words, if it is new
unfoldable pub kept_words : List ℕ → Layout → List ℕ → ℕ → ℕ → List ℕ
kept_words A l X at n = elim (kept_at A l X at n) [ true ↦ moved_at (numbers_of A l) X at | false ↦ [] ]

-- those of the records from one place to another, of which the first has number n; the first argument bounds their count
unfoldable pub walked : ℕ → List ℕ → Layout → List ℕ → ℕ → ℕ → ℕ → List ℕ
walked zero A l X at end n = []
walked (suc f) A l X at end n =
    elim (ltb at end) [ true ↦ kept_words A l X at n ++ walked f A l X (at + 1 + arguments_at X at) end (n + 1) | false ↦ [] ]

abbrev pub moved_run : List ℕ → Layout → List ℕ → ℕ → ℕ → List ℕ
moved_run A l X from end = walked (end - from) A l X from end 0

-- the words from one place to another
abbrev pub run_of : List ℕ → ℕ → ℕ → List ℕ
run_of W from end = rows (λ i. get_or W (from + i) 0) 0 (end - from)

-- where the words of each kind begin, and where the last ones end; maps and modules are one kind
unfoldable pub base_of : Layout → ℕ → ℕ
base_of l k =
    get_or (
    0
    ∷ crate_base l
    ∷ dependency_base l
    ∷ map_base l
    ∷ child_base l
    ∷ prelude_base l
    ∷ definition_base l
    ∷ scope_base l
    ∷ import_base l
    ∷ extern_base l
    ∷ member_base l
    ∷ word_count l
    ∷ []
    ) k 0

-- the words of kind k: the first's as they are, the second's moved
unfoldable pub kind_to : List ℕ → Layout → Layout → List ℕ → List ℕ → ℕ → List ℕ
kind_to A l m W X k = run_of W (base_of l k) (base_of l (k + 1)) ++ moved_run A l X (base_of m k) (base_of m (k + 1))

-- how many kinds there are
abbrev pub kinds : ℕ
kinds = 11

-- the words of both
abbrev pub words_to : List ℕ → Layout → Layout → List ℕ → List ℕ → List ℕ
words_to A l m W X = joined (rows (kind_to A l m W X) 0 kinds)

-- the same of two parts, the words of kind k and all of them

abbrev pub kind_in : Parts → List ℕ → ℕ → List ℕ
kind_in p A k = kind_to A p.first.layout p.second.layout p.first.words.now p.second.words.now k

abbrev pub words_in : Parts → List ℕ → List ℕ
words_in p A = words_to A p.first.layout p.second.layout p.first.words.now p.second.words.now
