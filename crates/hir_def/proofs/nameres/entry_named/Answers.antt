use Rattle.std.proofs.Common.{rules}
use Rattle.hir_def.specs.ItemScope.{get}
use Rattle.hir_def.specs.Nameres.{ancestor_maps, entry_named}
use Rattle.hir_def.proofs.Searches.{step_less, outwards, block_down}
use Rattle.accept.specs.Opened.{snap_in}
use Rattle.hir_def.proofs.nameres.entry_named.Goals as goal

pub nearest-requires-clause-falls : goal.nearest-requires-clause-falls
nearest-requires-clause-falls c = λ m b i p. step_less (block_down c.args.db.now.reads) c.requires i (search rules)

pub returns : goal.returns
unfolding entry_named ancestor_maps
returns c =
    let S = snap_in c.args.db.now in
    c.nearest.ensures _ (λ m. get S m c.args.ns c.args.name.0) _
    (outwards (block_down c.args.db.now.reads) c.requires (λ m e i p. search rules) (λ m o i p. search rules))
