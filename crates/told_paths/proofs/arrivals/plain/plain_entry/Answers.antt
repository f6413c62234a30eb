use Rattle.std.proofs.Common.{rules}
use Rattle.hir_def.specs.Items.{defined_item}
use Rattle.told_paths.proofs.arrivals.Means.{entry_or_else}
use Rattle.accept.specs.Opened.{snap_in}
use Rattle.told_paths.proofs.arrivals.plain.plain_entry.Goals as goal

pub returns : goal.returns
returns c =
    entry_or_else (snap_in c.args.view.now.db) c.args.view.now.from.0 (defined_item c.args.ns.0 c.args.d.0) c.args.view.now.db.records.words.now
    c.plain_around.result c.or_else.result c.or_else.ensures c.plain_around.ensures (λ p. search rules)
