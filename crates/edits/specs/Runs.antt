-- Runs of edits.
use Rattle.std.specs.Prelude.{ℕ, List, [], ◌∷◌, ◌++◌, Bool, true, false, take}
use Rattle.snapshot.specs.Records.{Scope, Snapshot}
use Rattle.edit_rules.specs.Entries.{is_named}
use Rattle.edit_rules.specs.Edits.{Edit, refused_by, edited, Operation, adding, removing, edit_of, edited_snapshot}
use Rattle.edits.specs.Edits.{count_after, words_after}

-- a lent slice, and how many of its words the snapshot has
pub record Held : Type 0 where
  pub words : List ℕ
  pub count : ℕ

-- the snapshot's own words
abbrev pub own_words : Held → List ℕ
own_words h = take h.count h.words

abbrev pub after : Held → Edit → Held
after h e = record { words = words_after h.words e; count = count_after h.count e }

-- an edit with a work area of so many words
abbrev pub edit_in : ℕ → Held → Operation → Edit
edit_in area h o = edit_of area h.words h.count o

-- the slice after a run of edits
unfoldable pub after_run : ℕ → Held → List Operation → Held
after_run area h [] = h
after_run area h (o ∷ os) = after_run area (after h (edit_in area h o)) os

-- the snapshot after an edit: a refused one leaves it
unfoldable pub snapshot_by : Held → Snapshot → Operation → Edit → Snapshot
snapshot_by h s o (refused_by n) = s
snapshot_by h s o (edited S) = edited_snapshot (own_words h) s o

-- and after a run of edits
unfoldable pub snapshot_after : ℕ → Held → Snapshot → List Operation → Snapshot
snapshot_after area h s [] = s
snapshot_after area h s (o ∷ os) = snapshot_after area (after h (edit_in area h o)) (snapshot_by h s o (edit_in area h o)) os

-- The entries alone: an added one comes last, the first of a name is taken out, the others stay in order.

unfoldable pub removed : (Scope → Bool) → List Scope → List Scope
removed t [] = []
removed t (x ∷ xs) = elim (t x) [ true ↦ xs | false ↦ x ∷ removed t xs ]

unfoldable pub entries_by : List Scope → Operation → Edit → List Scope
entries_by xs o (refused_by n) = xs
entries_by xs (adding x) (edited S) = xs ++ (x ∷ [])
entries_by xs (removing m ns name) (edited S) = removed (is_named m ns name) xs

-- the entries after a run of edits
unfoldable pub entries_after : ℕ → Held → List Scope → List Operation → List Scope
entries_after area h xs [] = xs
entries_after area h xs (o ∷ os) = entries_after area (after h (edit_in area h o)) (entries_by xs o (edit_in area h o)) os
