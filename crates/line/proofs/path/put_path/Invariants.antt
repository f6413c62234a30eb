use Prim.Native.Nat.{◌+◌, ◌*◌, ◌≤◌}
use mathlib.Core.Path.{◌≡◌}
use lib.ListN.{length}
use Rattle.line.proofs.Laws.{tail_to}
use Rattle.find_path_spec.specs.Line.{written_of}
use Rattle.printing.specs.Output.{Put}
use Rattle.accept.specs.Opened.{snap_in}
use Rattle.line.proofs.path.put_path.Given as goal

abbrev pub invariant-loop-i : goal.invariant-loop-i
invariant-loop-i l =
    (l.i ≤ length l.names) × (length l.out ≡ length l.initial.out)
    × Put l.initial.out l.initial.to (tail_to (written_of (snap_in l.db) l.edition) l.leading l.names l.i) l.out l.to
    × (l.to ≤ l.initial.to + 257 * l.i)
