use Prim.Native.Nat.{ℕ, ◌≤◌}
use mathlib.Core.Path.{◌≡◌}
use lib.ListN.{length, take}
use Rattle.snapshot.specs.declared.ids.Crate.{Crate}
use Rattle.record_index.specs.Post.{Ranging}
use Rattle.record_index.proofs.ranges.range_records.Given as goal

abbrev pub invariant-loop-k : goal.invariant-loop-k
invariant-loop-k g l =
    ((f : ℕ → ℕ) → ((k : ℕ) (c : Crate) → goal.F-post g l.owner k c → c.0 ≡ f k) → Ranging f l.k l.crates l.at l.area)
    × (take l.at l.area ≡ take l.at l.fn.area) × (length l.area ≡ length l.fn.area) × (l.k ≤ l.count)
