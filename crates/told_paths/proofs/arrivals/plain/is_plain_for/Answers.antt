use Rattle.snapshot.specs.Records.{scope_at}
use Rattle.told_paths.proofs.arrivals.Means.{plain_so, plain_unseen, plain_not}
use Rattle.accept.specs.Opened.{snap_in}
use Rattle.told_paths.proofs.arrivals.plain.is_plain_for.Goals as goal

pub returns-then-seen : goal.returns-then-seen
returns-then-seen c =
    plain_so (snap_in c.args.view.now.db) c.args.view.now.from.0 c.args.m.0 c.args.ns.0
    c.args.d.0 (scope_at c.args.view.now.db.records.words.now c.args.h)
    (c.is_for.ensures c.args.view.now.db.area.now) c.if-is_for.true c.seen.ensures c.if-seen.true c.scope_name.ensures
    c.means_item.ensures

pub returns-else-seen : goal.returns-else-seen
returns-else-seen c =
    plain_unseen (snap_in c.args.view.now.db) c.args.view.now.from.0 c.args.m.0 c.args.ns.0
    c.args.d.0 (scope_at c.args.view.now.db.records.words.now c.args.h)
    (c.is_for.ensures c.args.view.now.db.area.now) c.if-is_for.true c.seen.ensures c.if-seen.false

pub returns-else-is_for : goal.returns-else-is_for
returns-else-is_for c =
    plain_not (snap_in c.args.view.now.db) c.args.view.now.from.0 c.args.m.0 c.args.ns.0
    c.args.d.0 (scope_at c.args.view.now.db.records.words.now c.args.h)
    (c.is_for.ensures c.args.view.now.db.area.now) c.if-is_for.false
