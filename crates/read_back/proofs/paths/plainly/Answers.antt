use mathlib.Core.Path.{refl, ap, ◌∙◌}
use native.Mathlib.Omega.{arith}
use lib.ListN.{get_or, length}
use Rattle.std.proofs.lemmas.List.{take_all}
use Rattle.accept.specs.Opened.{snap_in}
use Rattle.read_back.specs.readings.Reads.{plainly}
use Rattle.read_back.proofs.Cases.{plain_first, plain_none}
use Rattle.read_back.proofs.paths.plainly.Goals as goal

pub returns-then-count-eq0 : goal.returns-then-count-eq0
returns-then-count-eq0 c =
    let S = snap_in c.args.view.now.db in
    let N = c.args.names.now in
    plain_none S c.args.view.now.from.0 c.args.ns N (length N) c.if-count-eq0.true
    ∙ ap (plainly S c.args.view.now.from.0 c.args.ns) (take_all _ N (omega arith))

pub returns : goal.returns
returns c =
    let S = snap_in c.args.view.now.db in
    let N = c.args.names.now in
    plain_first S c.args.view.now.from.0 c.args.ns N (length N) (omega arith) (omega (arith, c.if-count-eq0.false))
    (c.looked_in-its.ensures (λ i. get_or N i 0)) refl c.first_name-here.ensures c.follow.ensures
    ∙ ap (plainly S c.args.view.now.from.0 c.args.ns) (take_all _ N (omega arith))
