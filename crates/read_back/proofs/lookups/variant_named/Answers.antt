use Rattle.std.proofs.Common.{rules}
use Rattle.snapshot.specs.Records.{member_at}
use Rattle.read_back.specs.readings.Reads.{is_variant_named, variant_named}
use Rattle.hir_def.proofs.Searches.{first_in}
use Rattle.read_back.proofs.lookups.variant_named.Goals as goal

pub returns : goal.returns
unfolding variant_named
returns c =
    λ A.
    first_in (is_variant_named c.args.d.0 c.args.name.0) member_at c.args.records.now.words.now c.members.ensures
    (λ h t p. search rules) _ c.first_where.ensures
