use mathlib.Core.Path.{subst}
use Rattle.told_paths.specs.arrivals.Steps.{Ready}
use Rattle.told_paths.proofs.arrivals.Means.{leads_by}
use Rattle.accept.specs.Opened.{snap_in}
use Rattle.told_paths.proofs.arrivals.arrivals.arrive.Goals as goal

pub arrive_plainly-requires : goal.arrive_plainly-requires
arrive_plainly-requires c = subst (λ b. Ready b c.args.view.now c.args.n) c.if-named.true c.requires

pub returns-then-named : goal.returns-then-named
returns-then-named c =
    leads_by (snap_in c.args.view.now.db) c.args.view.now.from.0 c.args.n c.args.view.now.db.area.now
    c.args.item _ c.if-named.true c.arrive_plainly.ensures

pub arrive_by_keyword-requires : goal.arrive_by_keyword-requires
arrive_by_keyword-requires c = subst (λ b. Ready b c.args.view.now c.args.n) c.if-named.false c.requires

pub returns : goal.returns
returns c =
    leads_by (snap_in c.args.view.now.db) c.args.view.now.from.0 c.args.n c.args.view.now.db.area.now
    c.args.item _ c.if-named.false c.arrive_by_keyword.ensures
