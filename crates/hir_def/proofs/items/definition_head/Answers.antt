use Rattle.hir_def.proofs.Lookups.{definition_none, definition_there}
use Rattle.hir_def.proofs.items.definition_head.Goals as goal

pub returns-then-records-d : goal.returns-then-records-d
returns-then-records-d c = λ A. definition_none c.args.records.now.words.now A c.args.records.now.layout c.args.d.0 c.if-records-d.true

pub returns : goal.returns
returns c = λ A. definition_there c.args.records.now.words.now A c.args.records.now.layout
    c.args.d.0 c.if-records-d.false c.definition_base.ensures
