use Rattle.join.proofs.records.Laws.{copy_ready, moved_ready, kind_wrote}
use Rattle.join.proofs.records.write.put_kind.Goals as goal

pub copy-t-requires : goal.copy-t-requires
copy-t-requires c =
    copy_ready c.args.area.now c.requires.whole.0.0 c.requires.whole.0.1 c.requires.whole.1 c.requires.space c.base.ensures c.base-2.ensures

pub put_moved-requires : goal.put_moved-requires
put_moved-requires c =
    moved_ready c.args.area.now c.requires.whole.0.0 c.requires.whole.0.1 c.requires.whole.1 c.requires.space c.base.ensures
    c.base-2.ensures c.base-3.ensures c.base-4.ensures c.copy-t.ensures

pub returns : goal.returns
returns c =
    kind_wrote c.args.area.now c.requires.whole.0.0 c.requires.whole.0.1 c.requires.whole.1 c.requires.space c.base.ensures
    c.base-2.ensures c.base-3.ensures c.base-4.ensures
    c.copy-t.ensures c.put_moved.ensures
