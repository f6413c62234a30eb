use Prim.Native.Nat.{◌-◌, ◌≤◌}
use Rattle.snapshot.specs.Lists.{rows}
use Rattle.edit_rules.specs.Written.{joined}
use Rattle.join.specs.records.Moves.{kind_to, kinds, words_to}
use Rattle.join.proofs.records.Laws.{Going}
use Rattle.join.proofs.records.write.put_kinds.Given as goal

abbrev pub invariant-loop-k : goal.invariant-loop-k
invariant-loop-k l =
    (l.k ≤ kinds) × Going l.write (words_to l.area l.parts.first.layout l.parts.second.layout l.parts.first.words.now l.parts.second.words.now) 0
    l.initial.target (joined
    (rows (kind_to l.area l.parts.first.layout l.parts.second.layout l.parts.first.words.now l.parts.second.words.now) l.k (kinds - l.k))) l.to
    l.target
