-- Edits of the worked snapshot, and the snapshot written out: computed.
use Prim.Native.Nat.{ℕ}
use mathlib.Core.Path.{◌≡◌, refl}
use mathlib.Core.List.{List, [], ◌∷◌, ◌++◌}
use lib.ListN.{take, drop, replicate}
use Rattle.std.specs.Prelude.{⊤}
use Rattle.check_records.specs.record_rules.Stands.{number_of}
use Rattle.check_rules.specs.Worked.{verdict_on_literals, worked, worked_snapshot}
use Rattle.edit_rules.specs.Entries.{scope_words, first_from, scopes_end, entry_place}
use Rattle.edit_rules.specs.Edits.{Edit, refused_by, edited, Operation, adding, removing, add_number, edit_fault, edited_words, edit_unless, edit_by}
use Rattle.edit_rules.specs.Edits.{edit_within, edit_of}
use Rattle.edit_rules.specs.Written.{each_words, tree_words, joined, snapshot_words}

-- what a row unfolds to compute an edit of words that are written out
unfoldable pub edit_on_literals : ⊤
unfolding edit_of edit_within edit_by edit_unless edited_words edit_fault add_number number_of scope_words first_from scopes_end entry_place
    verdict_on_literals
edit_on_literals = tt

-- the number of a refusal alone, or the words
pub told : Edit → List ℕ
told (refused_by n) = n ∷ []
told (edited S) = S

-- the worked words with two more at the end, in a slice of so many words more; their scope records stand from 21 and from 29 on
pub slice : ℕ → List ℕ
slice room = worked ++ (0xB0000000 ∷ 0 ∷ 1 ∷ []) ++ replicate room 7

-- an edit of the words in that slice
pub after : ℕ → Operation → List ℕ
after room o = told (edit_of 16384 (slice room) 40 o)

-- module, namespace, name, definition, visibility
pub put : ℕ → ℕ → ℕ → ℕ → ℕ → Operation
put m ns name d v = adding (record { owner = m; ns = ns; name = name; definition = d; visibility = v; number = 0; declared = 2; bits = 1; place = 0 })

-- an entry goes after the last scope record; one that is taken out is the module's of that namespace and name
pub words :
    after 8 (put 0 1 1 1 0) ∷ after 0 (removing 1 1 1) ∷ after 0 (removing 0 0 0) ∷ []
    ≡ (worked ++ (0x90000000 ∷ 1 ∷ 1 ∷ 1 ∷ 0 ∷ 0 ∷ 2 ∷ 1 ∷ 0xB0000000 ∷ 0 ∷ 1 ∷ []))
    ∷ (take 29 worked ++ (0xB0000000 ∷ 0 ∷ 1 ∷ []))
    ∷ (take 21 worked ++ (drop 29 worked ++ (0xB0000000 ∷ 0 ∷ 1 ∷ [])))
    ∷ []
unfolding after slice put told edit_on_literals
words = refl

-- 32, 33 and 35 where the name is there already, then 47, then 48; 47 for a name that is not there
pub numbers :
    after 0 (put 0 0 0 0 4) ∷ after 0 (put 0 0 0 2 0) ∷ after 0 (put 0 2 1 1 0) ∷ after 0 (put 0 0 0 1 0) ∷ after 7 (put 0 1 1 1 0)
    ∷ after 8 (removing 0 1 1) ∷ after 8 (removing 1 1 0) ∷ []
    ≡ (32 ∷ []) ∷ (33 ∷ []) ∷ (35 ∷ []) ∷ (47 ∷ []) ∷ (48 ∷ []) ∷ (47 ∷ []) ∷ (47 ∷ []) ∷ []
unfolding after slice put told edit_on_literals
numbers = refl

pub written : snapshot_words worked_snapshot ≡ worked
unfolding snapshot_words joined tree_words each_words scope_words
written = refl
