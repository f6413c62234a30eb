use Rattle.join.proofs.records.Laws.{base_is}
use Rattle.join.proofs.records.write.base.Goals as goal

pub returns : goal.returns
returns c =
    base_is c.args.l c.args.k c.dependency_base.ensures
    c.map_base.ensures
    c.child_base.ensures
    c.prelude_base.ensures
    c.definition_base.ensures
    c.scope_base.ensures c.import_base.ensures
    c.extern_base.ensures c.member_base.ensures c.member_base-2.ensures
