use Rattle.join.proofs.numbers.Turns.{named_ready, named_holds, numbered}
use Rattle.join.proofs.numbers.tables.number.Goals as goal

pub number_definitions-definitions-requires : goal.number_definitions-definitions-requires
number_definitions-definitions-requires c = let a = c.args in
    let b = c.number_names-names.new.area in
    record {
      ready = named_ready a.parts.now.first.words.now a.parts.now.second.words.now a.area.now a.parts.now.first.layout
          a.parts.now.second.layout c.requires b c.number_names-names.result c.number_names-names.ensures;
      holds = named_holds a.parts.now.first.words.now a.parts.now.second.words.now a.area.now a.parts.now.first.layout a.parts.now.second.layout
          c.requires b c.number_names-names.result c.number_names-names.ensures;
    }

pub returns : goal.returns
returns c =
    let a = c.args in
    numbered a.parts.now.first.words.now a.parts.now.second.words.now a.area.now a.parts.now.first.layout a.parts.now.second.layout c.requires
    c.number_names-names.new.area c.number_definitions-definitions.new.area c.number_names-names.result c.number_definitions-definitions.result
    c.number_names-names.ensures c.number_definitions-definitions.ensures
