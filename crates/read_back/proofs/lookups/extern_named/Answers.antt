use Rattle.std.proofs.Common.{rules}
use Rattle.snapshot.specs.Records.{extern_at}
use Rattle.read_back.specs.readings.Reads.{is_extern_named, extern_named}
use Rattle.hir_def.proofs.Searches.{first_in}
use Rattle.read_back.proofs.lookups.extern_named.Goals as goal

pub returns : goal.returns
unfolding extern_named
returns c =
    λ A.
    first_in (is_extern_named c.args.c.0 c.args.name.0) extern_at c.args.records.now.words.now c.externs.ensures
    (λ h t p. search rules) _ c.first_where.ensures
