use mathlib.Core.Path.{◌≡◌, sym, ◌∙◌}
use lib.Dec.{eqb}
use Rattle.std.proofs.Common.{rules}
use Rattle.import_rules.specs.Collect.{member_ns}
use Rattle.imports.proofs.lists.write.member_ns.Goals as goal

pub returns-then-eq : goal.returns-then-eq
unfolding member_ns
returns-then-eq c k e =
    let v : c.eq.result ≡ eqb k 0 = search rules in
    rw (member_ns, sym v ∙ c.if-eq.true)

pub returns : goal.returns
unfolding member_ns
returns c k e =
    let v : c.eq.result ≡ eqb k 0 = search rules in
    rw (member_ns, sym v ∙ c.if-eq.false)
