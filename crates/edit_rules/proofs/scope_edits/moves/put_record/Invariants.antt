use Prim.Native.Nat.{◌≤◌}
use mathlib.Core.Path.{◌≡◌}
use lib.ListN.{length}
use lib.Seq.{paste}
use Rattle.snapshot.specs.Sizes.{scope_size}
use Rattle.edit_rules.proofs.scope_edits.moves.put_record.Given as goal

abbrev pub invariant-loop-i : goal.invariant-loop-i
invariant-loop-i l = (l.i ≤ scope_size) × (length l.words ≡ length l.initial.words) × (l.words ≡ paste l.initial.words l.at l.added l.i)
