use Prim.Native.Nat.{◌*◌, ◌+◌, ◌≤◌}
use mathlib.Core.Path.{◌≡◌}
use mathlib.Core.List.{◌∷◌}
use lib.ListN.{length, take}
use Rattle.windows.specs.state.Words.{rows_words}
use Rattle.windows.proofs.state.words.words_of.Given as goal

abbrev pub invariant-loop-i : goal.invariant-loop-i
invariant-loop-i l =
    (l.i ≤ 8) × (length l.words ≡ 65) × (take (1 + 8 * l.i) l.words ≡ l.windows.next ∷ rows_words (take l.i l.windows.rows))
