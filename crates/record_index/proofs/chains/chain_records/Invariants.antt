use Prim.Native.Nat.{ℕ, ◌≤◌}
use mathlib.Core.Path.{◌≡◌}
use lib.ListN.{length}
use Rattle.record_index.specs.Post.{Threaded}
use Rattle.record_index.proofs.chains.chain_records.Given as goal

abbrev pub invariant-loop-k : goal.invariant-loop-k
invariant-loop-k g l =
    ((f : ℕ → ℕ) → ((k c : ℕ) → goal.F-post g l.key k c → c ≡ f k) → Threaded l.fn.area f l.count l.keys l.heads l.links l.k l.area)
    × (length l.area ≡ length l.fn.area) × (l.k ≤ l.count)
