use Rattle.join.proofs.new_numbers.read.new_definition.Goals as goal

pub returns : goal.returns
returns c = λ s t k h g. c.moved_definition.ensures s t k h
