use Prim.Native.Nat.{◌+◌, ◌*◌}
use mathlib.Core.Path.{ap, ◌∙◌}
use Rattle.std.proofs.Common.{rules}
use Rattle.snapshot.specs.Sizes.{extern_size}
use Rattle.snapshot.specs.Records.{extern_at}
use Rattle.record_index.specs.Ranges.{extern_owner_at}
use Rattle.record_index.proofs.range_externs.Goals as goal

pub returns : goal.returns
returns c =
    let W = c.args.records.now.words.now in
    c.range_records.ensures (extern_owner_at W c.args.records.now.layout)
    (λ k o p. (search rules) ∙ ap (λ b. (extern_at W (b + extern_size * k)).owner) c.extern_base-base.ensures)
