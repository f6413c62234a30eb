use Prim.Native.Nat.{◌≤◌}
use mathlib.Core.Path.{◌≡◌}
use lib.Seq.{sets}
use Rattle.snapshot.specs.Lists.{rows}
use Rattle.join.specs.records.Moves.{numbers_of, moved_word}
use Rattle.join.proofs.records.write.put_record.Given as goal

abbrev pub invariant-loop-i : goal.invariant-loop-i
invariant-loop-i l =
    (l.i ≤ l.n) × (l.target ≡ sets l.initial.target l.to
    (rows (moved_word (numbers_of l.second.area.now l.second.first) l.second.words.now l.at) 0 l.i))
