use mathlib.Core.Bool.{true, false}
use Rattle.told_paths.proofs.shortest_paths.Laws.{run_same, run_reads, both_told}
use Rattle.told_paths.proofs.shortest_paths.shortest.shortest.Goals as goal

pub invariant_of-db : goal.invariant_of-db
invariant_of-db c =
    let g = c.run_keywords-n.ensures in
    record { reads = run_reads c.args.records.now.words.now c.args.area.now c.args.records.now.layout c.requires.0 c.args.from.0 false g }

pub shortest_of-a-requires : goal.shortest_of-a-requires
shortest_of-a-requires c =
    let g = c.run_keywords-n.ensures in
    record { rows = g.run; same = run_same c.args.records.now.words.now c.args.area.now c.args.records.now.layout c.requires.0 c.args.from.0 false g }

pub run_plain-m-requires : goal.run_plain-m-requires
run_plain-m-requires c =
    let g = c.run_keywords-n.ensures in
    (run_reads c.args.records.now.words.now c.args.area.now c.args.records.now.layout c.requires.0 c.args.from.0 false g, c.requires.1, g.run.space)

pub invariant_of-db-2 : goal.invariant_of-db-2
invariant_of-db-2 c = let g = c.run_keywords-n.ensures in
    let h = c.run_plain-m.ensures in
    let r = run_reads c.args.records.now.words.now c.args.area.now c.args.records.now.layout c.requires.0 c.args.from.0 false g in
    record { reads = run_reads c.args.records.now.words.now _ c.args.records.now.layout r c.args.from.0 true h }

pub shortest_of-b-requires : goal.shortest_of-b-requires
shortest_of-b-requires c =
    let g = c.run_keywords-n.ensures in
    let h = c.run_plain-m.ensures in
    let r = run_reads c.args.records.now.words.now c.args.area.now c.args.records.now.layout c.requires.0 c.args.from.0 false g in
    record { rows = h.run; same = run_same c.args.records.now.words.now _ c.args.records.now.layout r c.args.from.0 true h }

pub returns : goal.returns
returns c =
    let t = both_told c.args.records.now.words.now c.args.area.now c.args.records.now.layout c.requires.0 c.args.from.0 c.run_keywords-n.ensures
    c.run_plain-m.ensures c.args.item c.shortest_of-a.ensures c.shortest_of-b.ensures
    c.shorter.ensures in
    record { value = t.0; stays = t.1 }
