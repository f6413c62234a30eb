use Rattle.hir_def.proofs.Lookups.{crate_none, crate_there}
use Rattle.hir_def.proofs.items.crate_head.Goals as goal

pub returns-then-records-c : goal.returns-then-records-c
returns-then-records-c c = λ A. crate_none c.args.records.now.words.now A c.args.records.now.layout c.args.c.0 c.if-records-c.true

pub returns : goal.returns
returns c = λ A. crate_there c.args.records.now.words.now A c.args.records.now.layout
    c.args.c.0 c.if-records-c.false
