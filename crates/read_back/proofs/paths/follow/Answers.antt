-- what is left of the names gives the whole
use mathlib.Core.Path.{refl}
use lib.ListN.{get_or, length}
use Rattle.read_back.proofs.Cases.{follow_next, follow_done}
use Rattle.accept.specs.Opened.{snap_in}
use Rattle.read_back.proofs.paths.follow.Goals as goal

pub loop-k-preserved : goal.loop-k-preserved
loop-k-preserved c =
    let g = c.loop-k in
    follow_next (snap_in c.args.view.now.db) c.args.view.now.from.0 c.args.ns
    (λ i. get_or c.args.names.now i 0) _ g.k (length c.args.names.now) g.here _ _ g.invariant
    c.loop-k-test.true (c.looked_in-its.ensures (λ i. get_or c.args.names.now i 0))
    refl c.next_name-here.ensures

pub returns : goal.returns
returns c =
    let g = c.loop-k in
    follow_done (snap_in c.args.view.now.db) c.args.view.now.from.0 c.args.ns
    (λ i. get_or c.args.names.now i 0) _ g.k (length c.args.names.now) g.here g.invariant c.loop-k-test.false
