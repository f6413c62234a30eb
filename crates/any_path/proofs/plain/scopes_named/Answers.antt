use Rattle.std.proofs.Common.{rules}
use Rattle.hir_def.proofs.Searches.{step_less, outwards}
use Rattle.nameable.specs.Paths.{scopes_from}
use Rattle.nameable.specs.Queue.{seen_named}
use Rattle.any_path.proofs.seen_entries.Laws.{step_down}
use Rattle.any_path.specs.Plain.{scopes_named}
use Rattle.accept.specs.Opened.{snap_in}
use Rattle.any_path.proofs.plain.scopes_named.Goals as goal

pub nearest-requires-clause-falls : goal.nearest-requires-clause-falls
nearest-requires-clause-falls c = λ m b i p. step_less (step_down c.args.view.now.db.reads) c.args.view.now.inside i (search rules)

pub returns : goal.returns
unfolding scopes_named scopes_from
returns c =
    let S = snap_in c.args.view.now.db in
    c.nearest.ensures _ (λ m. seen_named S c.args.view.now.from.0 c.args.ns m c.args.name.0) _
    (outwards (step_down c.args.view.now.db.reads) c.args.view.now.inside (λ m e i p. search rules) (λ m o i p. search rules))
