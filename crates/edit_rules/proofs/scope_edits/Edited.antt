-- An edit that is not refused leaves words that are accepted, as the edited snapshot; an addition removed at once restores the words.
use Prim.Native.Nat.{ℕ, ◌+◌, ◌≤◌, ◌<◌}
use mathlib.Core.Path.{◌≡◌, refl, sym, ◌∙◌, ap}
use mathlib.Core.List.{List, [], ◌∷◌, ◌++◌}
use mathlib.Core.Bool.{Bool, true, false, ◌&&◌, true≢false}
use native.Mathlib.Omega.{arith}
use lib.Dec.{eqb, leb, ltb}
use lib.ListN.{length, get_or}
use borrow.Author.Tests.{eq-eqb, leb-true, ltb-true, ltb-false}
use Rattle.snapshot.specs.Lists.{any}
use Rattle.snapshot.specs.Limits.{word_limit}
use Rattle.snapshot.specs.Refusals.{entry_refusal}
use Rattle.snapshot.specs.Sizes.{scope_size}
use Rattle.snapshot.specs.Records.{Scope, Snapshot, scope_at}
use Rattle.check_rules.specs.Tests.{counts_of, scope_range, scope_defined, ns_placed, same_entry}
use Rattle.check_rules.specs.Verdict.{accept, verdict}
use Rattle.accept.proofs.Accepted.{by_test}
use Rattle.accept.proofs.Bools.{and_two}
use Rattle.accept.proofs.Ranges.{accepted_limits}
use Rattle.edit_rules.specs.Entries.{scope_words, is_named, higher, placed, with_scopes, is_entry, scopes_end, entry_place, inserted, cut}
use Rattle.edit_rules.specs.Edits.{Operation, adding, removing, has_room, edit_fault, edited_words, edited_snapshot}
use Rattle.edit_rules.proofs.scope_edits.Lists.{inserted_length, inserted_before, inserted_at, cut_inserted}
use Rattle.edit_rules.proofs.scope_edits.Removed.{absent, present}
use Rattle.edit_rules.proofs.scope_edits.Inserted.{Small, fits_small, words_length, entry_kind, entry_is, end_within, added_accepted}
use Rattle.edit_rules.proofs.scope_edits.Walked.{place_back}
use Rattle.edit_rules.proofs.scope_edits.Numbers.{Clean, none_clean}

-- a removal that is not refused
removal_there : (s : Snapshot) (n slice m ns name : ℕ) → edit_fault s n slice (removing m ns name) ≡ 0 → any (is_named m ns name) s.scopes ≡ true
unfolding edit_fault
removal_there s n slice m ns name e =
    by_test (any (is_named m ns name) s.scopes) (λ c. c)
    (λ c. let f : entry_refusal ≡ 0 = rw (edit_fault, c) at e in absurd (omega arith))

-- the record of an entry that is there is found
pub found_within : (t : Scope → Bool) (W : List ℕ) (s : Snapshot) → verdict W ≡ accept s → any t s.scopes ≡ true → entry_place t W < length W
found_within t W s acc h =
    by_test (ltb (entry_place t W) (length W)) (λ c. ltb-true (entry_place t W) (length W) c)
    (λ c. absurd (true≢false (sym h ∙ absent t W s acc (ltb-false (entry_place t W) (length W) c))))

not_found : (t : Scope → Bool) (W : List ℕ) (s : Snapshot) → verdict W ≡ accept s → any t s.scopes ≡ false → length W ≤ entry_place t W
not_found t W s acc h =
    by_test (ltb (entry_place t W) (length W))
    (λ c. absurd (true≢false (sym (present t W s acc (ltb-true (entry_place t W) (length W) c)).there ∙ h)))
    (λ c. ltb-false (entry_place t W) (length W) c)

-- an addition that is not refused
module _ (W : List ℕ) (s : Snapshot) (slice : ℕ) (x : Scope) (acc : verdict W ≡ accept s) (e : edit_fault s (length W) slice (adding x) ≡ 0) where
  clean : Clean (scope_range x) (scope_defined (counts_of s) x) (ns_placed s x.ns x.definition) (any (same_entry x) s.scopes)
      (has_room (length W) slice)
  unfolding edit_fault
  clean = none_clean (scope_range x) (scope_defined (counts_of s) x) (ns_placed s x.ns x.definition) (any (same_entry x) s.scopes)
      (has_room (length W) slice) e

  roomy : (leb (length W + scope_size) word_limit ≡ true) × (leb (length W + scope_size) slice ≡ true)
  roomy = and_two (leb (length W + scope_size) word_limit) (leb (length W + scope_size) slice) clean.fits

  pub add_room : length W + scope_size ≤ slice
  add_room = leb-true (length W + scope_size) slice roomy.1

  pub add_small : Small x
  add_small = fits_small s x (accepted_limits W s acc) clean.ranged clean.known

  pub add_longer : length (inserted (scopes_end W) (scope_words x) W) ≡ length W + scope_size
  add_longer = inserted_length W (scope_words x) (scopes_end W) (end_within W s acc) ∙ ap (λ n. length W + n) (words_length x add_small)

  pub add_accepted : verdict (inserted (scopes_end W) (scope_words x) W) ≡ accept (with_scopes higher s (s.scopes ++ (placed (scopes_end W) x ∷ [])))
  add_accepted = added_accepted W s acc x clean.ranged clean.known clean.new clean.right
      (leb-true (length W + scope_size) word_limit roomy.0)

  stands : (i : ℕ) → i < scope_size → get_or (inserted (scopes_end W) (scope_words x) W) (scopes_end W + i) 0 ≡ get_or (scope_words x) i 0
  stands i h = inserted_at W (scope_words x) (scopes_end W) (end_within W s acc) i (rw (words_length x add_small) h)

  -- the entry is found where it was put in
  found_there : is_entry (same_entry x) (inserted (scopes_end W) (scope_words x) W) (scopes_end W) ≡ true
  found_there =
      let l = add_longer in
      let w = end_within W s acc in
      let X = inserted (scopes_end W) (scope_words x) W in
      let k = entry_kind x add_small X (scopes_end W) stands (omega arith) in
      let y = entry_is x add_small X (scopes_end W) stands (omega arith) in
      ap (λ j. eqb j 9 && same_entry x (scope_at X (scopes_end W))) k ∙ ap (λ z. eqb 9 9 && same_entry x z) y
      ∙ rw (eq-eqb x.owner x.owner refl, eq-eqb x.ns x.ns refl, eq-eqb x.name x.name refl)

  pub add_place : entry_place (same_entry x) (inserted (scopes_end W) (scope_words x) W) ≡ scopes_end W
  unfolding entry_place scopes_end
  add_place =
      let l = add_longer in
      let w = end_within W s acc in
      place_back (same_entry x) W (inserted (scopes_end W) (scope_words x) W) (scopes_end W)
      (inserted_before W (scope_words x) (scopes_end W) w) (omega arith) found_there (length W) (length (inserted (scopes_end W) (scope_words x) W))
      0 refl (omega arith) (omega arith)
      (not_found (same_entry x) W s acc clean.new)

  -- an addition and at once its removal
  pub add_removed : edited_words (edited_words W (adding x)) (removing x.owner x.ns x.name) ≡ W
  unfolding edited_words
  add_removed =
      ap (λ p. cut p scope_size (inserted (scopes_end W) (scope_words x) W)) add_place
      ∙ cut_inserted W (scope_words x) (scopes_end W) (end_within W s acc) scope_size (sym (words_length x add_small))

-- an edit that is not refused
pub edit_accepted : (W : List ℕ) (s : Snapshot) (slice : ℕ) (o : Operation) → verdict W ≡ accept s → edit_fault s (length W) slice o ≡ 0
    → verdict (edited_words W o) ≡ accept (edited_snapshot W s o)
unfolding edited_words edited_snapshot
edit_accepted W s slice (adding x) acc e = add_accepted W s slice x acc e
edit_accepted W s slice (removing m ns name) acc e =
    (present (is_named m ns name) W s acc (found_within (is_named m ns name) W s acc (removal_there s (length W) slice m ns name e))).after
