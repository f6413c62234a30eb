use Prim.Native.Nat.{◌+◌, ◌*◌, ◌≤◌}
use mathlib.Core.Path.{◌≡◌}
use lib.ListN.{length}
use Rattle.printing.specs.Output.{Put}
use Rattle.reach.proofs.one_line.Laws.{rest_to}
use Rattle.reach.proofs.one_line.put_numbers.Given as goal

abbrev pub invariant-loop-n : goal.invariant-loop-n
invariant-loop-n l =
    (l.n-index ≤ length l.n-items) × (length l.out ≡ length l.initial.out)
    × Put l.initial.out l.initial.to (rest_to l.numbers (l.n-index + 1)) l.out l.to
    × (l.to ≤ l.initial.to + 21 * l.n-index)
