use Prim.Native.Nat.{ℕ, ◌+◌, ◌-◌, ◌≤◌}
use mathlib.Core.Path.{◌≡◌}
use lib.ListN.{length}
use Rattle.edit_rules.specs.Entries.{is_named, first_from, is_entry, entry_place}
use Rattle.edit_rules.proofs.scope_edits.places.entry_place.Given as goal

abbrev pub invariant-loop-at : goal.invariant-loop-at
invariant-loop-at l =
    (f : ℕ) × (length l.words ≤ f + l.at)
    × (entry_place (is_named l.key.owner l.key.ns l.key.name) l.words
    ≡ first_from (is_entry (is_named l.key.owner l.key.ns l.key.name) l.words) f l.words l.at)

abbrev pub decreases-loop-at : goal.decreases-loop-at
decreases-loop-at l = length l.words - l.at
