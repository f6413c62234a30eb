use mathlib.Core.Path.{sym}
use borrow.Author.Tests.{eq-eqb, ne_eqb}
use Rattle.told_paths.specs.told_routes.Routes.{ns_of_first}
use Rattle.told_paths.proofs.told_routes.routes.looked_in.Goals as goal

pub returns-then-k-count : goal.returns-then-k-count
unfolding ns_of_first
returns-then-k-count c = sym (rw (ns_of_first, eq-eqb c.args.k c.args.count c.if-k-count.true))

pub returns : goal.returns
unfolding ns_of_first
returns c = sym (rw (ns_of_first, ne_eqb c.args.k c.args.count c.if-k-count.false))
