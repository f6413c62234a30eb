use lib.Dec.{eqb}
use Rattle.std.proofs.Common.{rules}
use Rattle.snapshot.specs.Records.{prelude_at}
use Rattle.hir_def.specs.Nameres.{prelude_of}
use Rattle.hir_def.proofs.Searches.{first_in}
use Rattle.hir_def.proofs.crate_graph.prelude_of.Goals as goal

pub returns : goal.returns
unfolding prelude_of
returns c =
    λ A.
    first_in (λ p. eqb p.map c.args.map) prelude_at c.args.records.now.words.now c.preludes.ensures
    (λ h t p. search rules) _ c.first_where.ensures
