use Prim.Native.Nat.{ℕ, ◌<◌}
use mathlib.Core.Path.{◌≡◌}
use Rattle.module_tree.specs.rules.Privately.{module_around}
use Rattle.any_path.proofs.Begins.{Climbing}
use Rattle.snapshot.specs.Laid.{snap_by}
use Rattle.any_path.proofs.begin.offer_supers.Given as goal

abbrev pub invariant-loop-p : goal.invariant-loop-p
invariant-loop-p l =
    (from : ℕ) → l.initial.m.0 ≡ module_around (snap_by l.records l.initial.area) from → from < l.records.layout.modules
    → Climbing l.records.words.now l.initial.area l.records.layout from l.n l.area l.count l.m.0 l.k

abbrev pub decreases-loop-p : goal.decreases-loop-p
decreases-loop-p l = l.m.0
