use mathlib.Core.Path.{ap, ◌∙◌}
use mathlib.Core.Path.{◌≡◌}
use lib.Dec.{eqb}
use Rattle.std.proofs.Common.{rules}
use Rattle.snapshot.specs.Records.{definition_at}
use Rattle.std.specs.Prelude.{is_some}
use Rattle.snapshot.proofs.KindLaws.{definition_there}
use Rattle.check_records.proofs.item_records.definitions.in_range.Goals as goal

pub returns : goal.returns
returns c =
    let t = c.is_some.ensures ∙ ap is_some c.known_definition_kind-kind.ensures ∙ definition_there _ in
    let v : c.eq.result ≡ eqb (definition_at c.args.words.now c.args.at).kind 2 = search rules in
    rw (t, v, c.definition_second-second.ensures, c.builtin_named-builtin.ensures)
