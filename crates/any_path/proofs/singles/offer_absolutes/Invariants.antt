use Prim.Native.Nat.{ℕ}
use mathlib.Core.Path.{◌≡◌}
use Rattle.module_tree.specs.rules.Modules.{crate_of}
use Rattle.any_path.proofs.Externs.{Naming}
use Rattle.snapshot.specs.Laid.{snap_by}
use Rattle.any_path.proofs.singles.offer_absolutes.Given as goal

abbrev pub invariant-loop-k : goal.invariant-loop-k
invariant-loop-k l =
    (from : ℕ) → l.c.0 ≡ crate_of (snap_by l.records l.initial.area) from
    → Naming l.records.words.now l.initial.area l.records.layout from l.n l.area l.count l.k
