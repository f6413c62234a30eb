use native.Mathlib.Omega.{arith}
use Rattle.join.proofs.numbers.Filling.{numbering_start}
use Rattle.join.proofs.numbers.Turns.{names_room, names_next, names_done}
use Rattle.join.proofs.numbers.tables.number_names.Goals as goal

pub loop-n-init : goal.loop-n-init
loop-n-init c = numbering_start _ _ _ _ _ _

pub place_of_name-place-requires : goal.place_of_name-place-requires
place_of_name-place-requires c =
    let a = c.args in
    let l = c.loop-n in
    let q = (names_room a.parts.now.first.words.now a.parts.now.second.words.now a.area.now a.parts.now.first.layout a.parts.now.second.layout
    c.requires l.area l.n l.fresh
    l.invariant c.loop-n-test.true).0 in
    (c.requires.first.limited.names, omega arith)

pub put_number-fresh-requires : goal.put_number-fresh-requires
put_number-fresh-requires c =
    let a = c.args in
    let l = c.loop-n in
    names_room a.parts.now.first.words.now a.parts.now.second.words.now a.area.now a.parts.now.first.layout a.parts.now.second.layout c.requires
    l.area l.n l.fresh l.invariant
    c.loop-n-test.true

pub loop-n-preserved : goal.loop-n-preserved
loop-n-preserved c =
    let a = c.args in
    let l = c.loop-n in
    names_next a.parts.now.first.words.now a.parts.now.second.words.now a.area.now a.parts.now.first.layout a.parts.now.second.layout c.requires
    l.area c.put_number-fresh.new.area l.n l.fresh
    c.place_of_name-place.result c.put_number-fresh.result l.invariant
    c.loop-n-test.true c.place_of_name-place.ensures
    c.put_number-fresh.ensures.0 c.put_number-fresh.ensures.1

pub returns : goal.returns
returns c =
    let a = c.args in
    let l = c.loop-n in
    names_done a.parts.now.first.words.now a.parts.now.second.words.now a.area.now a.parts.now.first.layout a.parts.now.second.layout c.requires
    l.area l.n l.fresh l.invariant c.loop-n-test.false
