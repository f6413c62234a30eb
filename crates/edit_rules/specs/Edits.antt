-- What an edit of a snapshot's scope entries comes to: a refusal, or the new words.
use Rattle.std.specs.Prelude.{ℕ, zero, suc, ◌+◌, List, [], ◌∷◌, ◌++◌, Bool, true, false, ◌&&◌, leb, ltb, length, take}
use Rattle.snapshot.specs.Limits.{word_limit, area_limit}
use Rattle.snapshot.specs.Lists.{any}
use Rattle.snapshot.specs.Refusals.{area_refusal, words_refusal, entry_refusal, room_refusal}
use Rattle.snapshot.specs.Sizes.{scope_size}
use Rattle.snapshot.specs.Records.{Scope, Snapshot}
use Rattle.check_rules.specs.Tests.{counts_of, scope_range, scope_defined, ns_placed}
use Rattle.check_records.specs.record_rules.Stands.{number_of}
use Rattle.check_rules.specs.Verdict.{Verdict, refuse, accept, verdict}
use Rattle.edit_rules.specs.Entries.{scope_words, is_named, higher, lower, placed, with_scopes, without, scopes_end, entry_place, inserted, cut}

pub data Edit : Type 0 where
  refused_by : ℕ → Edit
  edited : List ℕ → Edit

pub data Operation : Type 0 where
  adding : Scope → Operation
  -- module, namespace and name
  removing : ℕ → ℕ → ℕ → Operation

-- the tests of a scope record but for repeats, then 47 for a name that is there already and 48 for no room
unfoldable pub add_number : ℕ → Bool → Bool → ℕ
add_number zero true room = entry_refusal
add_number zero false false = room_refusal
add_number zero false true = 0
add_number (suc n) there room = suc n

-- n words, in a slice of so many words; an added entry has room
abbrev pub has_room : ℕ → ℕ → Bool
has_room n slice = leb (n + scope_size) word_limit && leb (n + scope_size) slice

-- the number by which an edit of the snapshot s is refused, or 0
unfoldable pub edit_fault : Snapshot → ℕ → ℕ → Operation → ℕ
edit_fault s n slice (adding x) =
    add_number (number_of (scope_range x) (scope_defined (counts_of s) x) false (ns_placed s x.ns x.definition) true)
    (any (is_named x.owner x.ns x.name) s.scopes) (has_room n slice)
edit_fault s n slice (removing m ns name) = elim (any (is_named m ns name) s.scopes) [ true ↦ 0 | false ↦ entry_refusal ]

-- the words after it
unfoldable pub edited_words : List ℕ → Operation → List ℕ
edited_words S (adding x) = inserted (scopes_end S) (scope_words x) S
edited_words S (removing m ns name) = cut (entry_place (is_named m ns name) S) scope_size S

unfoldable pub edit_unless : List ℕ → Operation → ℕ → Edit
edit_unless S o zero = edited (edited_words S o)
edit_unless S o (suc n) = refused_by (suc n)

unfoldable pub edit_by : List ℕ → ℕ → Operation → Verdict → Edit
edit_by S slice o (refuse n at) = refused_by n
edit_by S slice o (accept s) = edit_unless S o (edit_fault s (length S) slice o)

-- the edit of the snapshot in the first n words of a slice
unfoldable pub edit_within : List ℕ → ℕ → Operation → Edit
edit_within W n o = elim (ltb (length W) n) [ true ↦ refused_by words_refusal | false ↦ edit_by (take n W) (length W) o (verdict (take n W)) ]

-- The same with a work area of so many words. The refusals come in the order 20, 30 where the slice has fewer words, 30 to 36 and 43
-- of the snapshot, then 32, 33, 35, 47, 48.
unfoldable pub edit_of : ℕ → List ℕ → ℕ → Operation → Edit
edit_of area W n o = elim (ltb area area_limit) [ true ↦ refused_by area_refusal | false ↦ edit_within W n o ]

-- The snapshot of the words S after an edit that is not refused. A new entry stands where the scopes of S end, and the records after the
-- edited place are moved by the words of a record, as in words written afresh: the sizes of records are the same.
unfoldable pub edited_snapshot : List ℕ → Snapshot → Operation → Snapshot
edited_snapshot S s (adding x) = with_scopes higher s (s.scopes ++ (placed (scopes_end S) x ∷ []))
edited_snapshot S s (removing m ns name) = with_scopes lower s (without (is_named m ns name) s.scopes)
