use Rattle.record_index.proofs.Ranging.{built_all}
use Rattle.record_index.proofs.index_records.Goals as goal

pub returns : goal.returns
returns c =
    built_all c.args.records.now.words.now c.args.area.now c.args.records.now.layout c.requires.1 c.make_chain.ensures c.make_chain-2.ensures
    c.make_chain-3.ensures c.range_dependencies.ensures c.range_externs.ensures
