use borrow.Author.Rules.{rules}
use native.Mathlib.Omega.{arith}
use Rattle.printing.proofs.Laws.{put_as, put_none}
use Rattle.printer.proofs.route.Laws.{route_none, route_found}
use Rattle.printer.proofs.route.put_route.Goals as goal

pub returns-then-not-found : goal.returns-then-not-found
returns-then-not-found c = record { put = put_as (route_none c.args.r c.if-not-found.true) (put_none _ _); upper_bound = omega arith }

pub slice_bounds-put_steps-end : goal.slice_bounds-put_steps-end
slice_bounds-put_steps-end c = search rules

pub put_steps-requires : goal.put_steps-requires
put_steps-requires c = (c.requires.0, omega (arith, c.requires.1, slice_bounds-put_steps-end c))

pub returns : goal.returns
returns c = let q = c.put_steps.ensures in
    record { put = put_as (route_found c.args.r c.if-not-found.false) q.put; upper_bound = q.upper_bound }
