use Prim.Native.Nat.{◌*◌, ◌≤◌}
use mathlib.Core.Path.{◌≡◌}
use lib.ListN.{length, take, drop}
use Rattle.windows.specs.state.Words.{rows_words}
use Rattle.windows.proofs.state.words.windows_of.Given as goal

abbrev pub invariant-loop-i : goal.invariant-loop-i
invariant-loop-i l = (l.i ≤ 8) × (length l.rows ≡ 8) × (rows_words (take l.i l.rows) ≡ take (8 * l.i) (drop 1 l.words))
