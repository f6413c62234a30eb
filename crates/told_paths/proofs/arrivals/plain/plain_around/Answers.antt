use Rattle.std.proofs.Common.{rules}
use Rattle.hir_def.specs.Items.{defined_item}
use Rattle.hir_def.proofs.Searches.{step_less, outwards}
use Rattle.nameable.specs.Paths.{scopes_from}
use Rattle.any_path.proofs.seen_entries.Laws.{step_down}
use Rattle.told_paths.specs.arrivals.Steps.{plain_in}
use Rattle.accept.specs.Opened.{snap_in}
use Rattle.told_paths.proofs.arrivals.plain.plain_around.Goals as goal

pub nearest-requires-clause-falls : goal.nearest-requires-clause-falls
nearest-requires-clause-falls c = λ m b i p. step_less (step_down c.args.view.now.db.reads) c.args.view.now.inside i (search rules)

pub returns : goal.returns
unfolding scopes_from
returns c =
    let S = snap_in c.args.view.now.db in
    c.nearest.ensures _ (plain_in S c.args.view.now.from.0 (defined_item c.args.ns.0 c.args.d.0)) _
    (outwards (step_down c.args.view.now.db.reads) c.args.view.now.inside (λ m e i p. search rules) (λ m o i p. search rules))
