use Prim.Native.Nat.{◌≤◌}
use mathlib.Core.Path.{◌≡◌}
use lib.ListN.{length, take, drop}
use Rattle.printing.specs.Input.{words_in}
use Rattle.printing.proofs.input.words_in.Given as goal

abbrev pub invariant-loop-k : goal.invariant-loop-k
invariant-loop-k l =
    (l.k ≤ l.n) × (length l.words ≡ length l.initial.words) × (take l.k l.words ≡ words_in l.bytes l.k)
    × (drop l.k l.words ≡ drop l.k l.initial.words)
