use Rattle.check_rules.specs.Tests.{no_definition}
use Rattle.join_rules.specs.Joined.{same_builtin}
use Rattle.join.specs.numbers.Parts.{part_of}
use Rattle.join.specs.numbers.Numbered.{definition_table}
use Rattle.join.proofs.numbers.Filling.{Numbering}
use Rattle.join.proofs.numbers.tables.number_definitions.Given as goal

abbrev pub invariant-loop-n : goal.invariant-loop-n
invariant-loop-n l =
    Numbering (same_builtin (part_of l.parts.first.words.now) (part_of l.parts.second.words.now)) no_definition
    (part_of l.parts.first.words.now).definitions (part_of l.parts.second.words.now).definitions
    definition_table l.initial.area l.area l.n l.fresh
