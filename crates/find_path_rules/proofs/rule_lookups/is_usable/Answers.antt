use Rattle.snapshot.specs.Records.{scope_at}
use Rattle.find_path_rules.proofs.rule_lookups.Laws.{usable_same}
use Rattle.accept.specs.Opened.{snap_in}
use Rattle.find_path_rules.proofs.rule_lookups.is_usable.Goals as goal

pub returns : goal.returns
returns c =
    usable_same (snap_in c.args.db.now) c.args.x (scope_at c.args.db.now.records.words.now c.args.h)
    c.args.item c.scope_name-name.ensures c.ns_of.ensures
    c.sees-seen.ensures c.entry_named-here.ensures
    (c.same_here.ensures c.args.db.now.area.now c.args.x)
