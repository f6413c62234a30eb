use mathlib.Core.List.{map}
use Rattle.snapshot.specs.Layouts.{snap_of}
use Rattle.hir_def.specs.Nameres.{children_of}
use Rattle.find_path_levels.proofs.Stacks.{Pushing}
use Rattle.find_path_levels.proofs.Nexts.{children_from}
use Rattle.find_path_levels.proofs.locations.push_children.Given as goal

abbrev pub invariant-loop-k : goal.invariant-loop-k
invariant-loop-k l =
    Pushing l.initial.area l.s l.n l.sought.item
    (map (λ c. c.child) (children_of (snap_of l.records.words.now l.initial.area l.fn.records.layout) l.from.0)) l.area l.run
    (children_from l.records.words.now l.fn.records.layout l.from.0 l.k)
