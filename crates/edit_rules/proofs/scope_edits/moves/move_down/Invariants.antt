use Prim.Native.Nat.{◌+◌, ◌≤◌}
use mathlib.Core.Path.{◌≡◌}
use mathlib.Core.List.{◌++◌}
use lib.ListN.{length, take, drop}
use Rattle.snapshot.specs.Sizes.{scope_size}
use Rattle.edit_rules.specs.Entries.{cut}
use Rattle.edit_rules.proofs.scope_edits.moves.move_down.Given as goal

abbrev pub invariant-loop-i : goal.invariant-loop-i
invariant-loop-i l =
    (l.at ≤ l.i) × (l.i + scope_size ≤ l.count) × (length l.words ≡ length l.initial.words)
    × (l.words ≡ take l.i (cut l.at scope_size (take l.count l.initial.words)) ++ drop l.i l.initial.words)
