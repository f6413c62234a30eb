use Prim.Native.Nat.{◌+◌, ◌≤◌}
use mathlib.Core.Path.{◌≡◌}
use mathlib.Core.List.{◌++◌, map}
use lib.ListN.{length, take, drop}
use Rattle.reports.specs.Written.{low}
use Rattle.reports.proofs.put_words.Given as goal

abbrev pub invariant-loop-i : goal.invariant-loop-i
invariant-loop-i l =
    (l.i ≤ length l.numbers) × (length l.out ≡ length l.initial.out)
    × (l.out ≡ take l.at l.initial.out ++ (map low (take l.i l.numbers) ++ drop (l.at + l.i) l.initial.out))
