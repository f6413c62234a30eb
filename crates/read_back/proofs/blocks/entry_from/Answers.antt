use Rattle.std.proofs.Common.{rules}
use Rattle.hir_def.specs.ItemScope.{get}
use Rattle.hir_def.proofs.Searches.{step_less, outwards}
use Rattle.read_back.specs.readings.Reads.{scopes_from, entry_from}
use Rattle.read_back.proofs.Outward.{outward_down}
use Rattle.accept.specs.Opened.{snap_in}
use Rattle.read_back.proofs.blocks.entry_from.Goals as goal

pub nearest-requires-clause-falls : goal.nearest-requires-clause-falls
nearest-requires-clause-falls c = λ m b i p. step_less (outward_down c.args.view.now.db.reads) c.args.view.now.inside i (search rules)

pub returns : goal.returns
unfolding entry_from scopes_from
returns c =
    let S = snap_in c.args.view.now.db in
    c.nearest.ensures _ (λ m. get S m c.args.ns c.args.name.0) _
    (outwards (outward_down c.args.view.now.db.reads) c.args.view.now.inside (λ m e i p. search rules) (λ m o i p. search rules))
