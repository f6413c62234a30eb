use Rattle.check_rules.specs.Tests.{no_name, same_name}
use Rattle.join.specs.numbers.Parts.{part_of}
use Rattle.join.specs.numbers.Numbered.{name_table}
use Rattle.join.proofs.numbers.Filling.{Numbering}
use Rattle.join.proofs.numbers.tables.number_names.Given as goal

abbrev pub invariant-loop-n : goal.invariant-loop-n
invariant-loop-n l = Numbering same_name no_name (part_of l.parts.first.words.now).names (part_of l.parts.second.words.now).names
    name_table l.initial.area l.area l.n l.fresh
