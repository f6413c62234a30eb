use Rattle.imports.proofs.order.sort.+sort.Given as goal

abbrev pub decreases-sort : goal.decreases-sort
decreases-sort l = l.n
