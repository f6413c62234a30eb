use Rattle.record_index.proofs.Keying.{number_module, number_other}
use Rattle.record_index.proofs.item_number.Goals as goal

pub returns-then-ns-definition_kind : goal.returns-then-ns-definition_kind
returns-then-ns-definition_kind c =
    let r = c.args.records.now in
    number_module r.words.now r.layout c.args.ns c.args.d.0 c.requires.0 c.definition_base.ensures c.definition_kind.ensures
    c.if-ns-definition_kind.true c.definition_first.ensures

pub returns : goal.returns
returns c =
    let r = c.args.records.now in
    number_other r.words.now r.layout c.args.ns c.args.d.0 c.requires.0 c.definition_base.ensures c.definition_kind.ensures
    c.if-ns-definition_kind.false
