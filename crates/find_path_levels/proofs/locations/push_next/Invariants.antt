use Prim.Native.Nat.{◌-◌, ◌≤◌}
use Rattle.record_index.specs.Index.{key_of, Follows}
use Rattle.record_index.specs.declared.chains.Chain.TheVariants.{Modules}
use Rattle.find_path_spec.specs.Walk.{leads_to}
use Rattle.find_path_levels.proofs.Stacks.{Pushing}
use Rattle.find_path_levels.proofs.Nexts.{leads_from}
use Rattle.snapshot.specs.Laid.{snap_by}
use Rattle.find_path_levels.proofs.locations.push_next.Given as goal

abbrev pub invariant-loop-next : goal.invariant-loop-next
invariant-loop-next l =
    Pushing l.initial.area l.s l.n l.sought.item (leads_to (snap_by l.records l.initial.area) l.from.0 l.m.0) l.area l.run
    (leads_from l.records.words.now l.initial.area l.records.layout l.from.0 l.m.0 l.k)
    × (l.k ≤ l.records.layout.scopes) × Follows (key_of l.records.words.now l.records.layout Modules) l.m.0 l.k

abbrev pub decreases-loop-next : goal.decreases-loop-next
decreases-loop-next l = l.records.layout.scopes - l.k
