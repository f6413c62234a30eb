use mathlib.Core.Path.{◌≡◌, ap, ap₂, ◌∙◌}
use mathlib.Core.Bool.{◌&&◌}
use lib.Dec.{eqb}
use Rattle.std.proofs.Common.{rules}
use Rattle.snapshot.specs.Records.{member_at}
use Rattle.read_back.proofs.lookups.is_variant_named.Goals as goal

pub returns : goal.returns
returns c =
    let v : c.eq-2.result ≡ eqb (member_at c.args.words.now c.args.h).kind 0 = search rules in
    ap₂ ◌&&◌ (c.eq.ensures ∙ ap (λ o. eqb o c.args.d.0) c.member_parent.ensures)
    (ap₂ ◌&&◌ v (c.eq-3.ensures ∙ ap (λ i. eqb i c.args.name.0) c.member_name.ensures))
