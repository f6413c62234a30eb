use mathlib.Core.Path.{sym, subst}
use Rattle.hir_def.specs.Tests.{NextBy, FirstBy}
use Rattle.hir_def.proofs.finds.first_where.Goals as goal

pub returns : goal.returns
unfolding NextBy FirstBy
returns g c = (_, subst (NextBy (goal.F-post g c.args.test) _ _ _ 0) c.in_ok-next.was c.next_where.ensures)

pub returns-in_err-next : goal.returns-in_err-next
unfolding NextBy FirstBy
returns-in_err-next g c =
    subst (FirstBy (goal.F-post g c.args.test) _ _ _) (sym c.from_residual.ensures)
    (subst (NextBy (goal.F-post g c.args.test) _ _ _ 0) c.in_err-next.was c.next_where.ensures)
