use Rattle.accept.proofs.Filling.{Filled}
use Rattle.accept.proofs.finish.fill_roots.Given as goal

abbrev pub invariant-loop-m : goal.invariant-loop-m
invariant-loop-m l = Filled l.initial.area l.area l.modules l.m
