use Rattle.imports.proofs.lists.Threading.{Gathering}
use Rattle.imports.proofs.lists.threads.gather.Given as goal

abbrev pub invariant-loop-k : goal.invariant-loop-k
invariant-loop-k l = Gathering l.records.words.now l.initial.area l.base l.count l.area l.k l.n
