use Rattle.join.proofs.numbers.Filling.{numbering_start}
use Rattle.join.proofs.numbers.Turns.{definitions_room, definitions_ready, definitions_named, definitions_next, definitions_done}
use Rattle.join.proofs.numbers.tables.number_definitions.Goals as goal

pub loop-n-init : goal.loop-n-init
loop-n-init c = numbering_start _ _ _ _ _ _

pub place_of_definition-place-requires : goal.place_of_definition-place-requires
place_of_definition-place-requires c = let a = c.args in
    let l = c.loop-n in
    let r = c.requires.ready in record {
      ready = (
        definitions_ready a.parts.now.first.words.now a.parts.now.second.words.now a.area.now a.parts.now.first.layout a.parts.now.second.layout r
            l.area l.n l.fresh
            l.invariant,
        c.loop-n-test.true,
      );
      holds = definitions_named a.parts.now.first.words.now a.parts.now.second.words.now a.area.now a.parts.now.first.layout a.parts.now.second.layout
          r l.area l.n l.fresh l.invariant c.requires.holds;
    }

pub put_number-fresh-requires : goal.put_number-fresh-requires
put_number-fresh-requires c =
    let a = c.args in
    let l = c.loop-n in
    definitions_room a.parts.now.first.words.now a.parts.now.second.words.now a.area.now a.parts.now.first.layout a.parts.now.second.layout
    c.requires.ready l.area l.n l.fresh
    l.invariant c.loop-n-test.true

pub loop-n-preserved : goal.loop-n-preserved
loop-n-preserved c =
    let a = c.args in
    let l = c.loop-n in
    definitions_next a.parts.now.first.words.now a.parts.now.second.words.now a.area.now a.parts.now.first.layout a.parts.now.second.layout
    c.requires.ready l.area c.put_number-fresh.new.area l.n
    l.fresh c.place_of_definition-place.result c.put_number-fresh.result l.invariant
    c.loop-n-test.true c.place_of_definition-place.ensures
    c.put_number-fresh.ensures.0 c.put_number-fresh.ensures.1

pub returns : goal.returns
returns c =
    let a = c.args in
    let l = c.loop-n in
    definitions_done a.parts.now.first.words.now a.parts.now.second.words.now a.area.now a.parts.now.first.layout a.parts.now.second.layout
    c.requires.ready l.area l.n l.fresh
    l.invariant c.loop-n-test.false
