use Prim.Native.Nat.{ℕ, ◌+◌, ◌-◌, ◌≤◌}
use mathlib.Core.Path.{◌≡◌}
use lib.ListN.{length}
use Rattle.edit_rules.specs.Entries.{first_from, is_later, scopes_end}
use Rattle.edit_rules.proofs.scope_edits.places.scopes_end.Given as goal

abbrev pub invariant-loop-at : goal.invariant-loop-at
invariant-loop-at l = (f : ℕ) × (length l.words ≤ f + l.at) × (scopes_end l.words ≡ first_from (is_later l.words) f l.words l.at)

abbrev pub decreases-loop-at : goal.decreases-loop-at
decreases-loop-at l = length l.words - l.at
