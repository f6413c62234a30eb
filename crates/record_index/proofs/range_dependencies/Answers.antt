use Prim.Native.Nat.{◌+◌, ◌*◌}
use mathlib.Core.Path.{ap, ◌∙◌}
use Rattle.std.proofs.Common.{rules}
use Rattle.snapshot.specs.Sizes.{dependency_size}
use Rattle.snapshot.specs.Records.{dependency_at}
use Rattle.record_index.specs.Ranges.{dependency_owner_at}
use Rattle.record_index.proofs.range_dependencies.Goals as goal

pub returns : goal.returns
returns c =
    let W = c.args.records.now.words.now in
    c.range_records.ensures (dependency_owner_at W c.args.records.now.layout)
    (λ k o p. (search rules) ∙ ap (λ b. (dependency_at W (b + dependency_size * k)).owner) c.dependency_base-base.ensures)
