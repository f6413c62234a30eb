use Prim.Native.Nat.{ℕ, ◌+◌, ◌*◌, ◌≤◌, ◌<◌}
use mathlib.Core.Path.{◌≡◌}
use mathlib.Core.Bool.{false}
use Rattle.hir_def.specs.Tests.{Only}
use Rattle.hir_def.proofs.finds.next_within.Given as goal

abbrev pub invariant-loop-i : goal.invariant-loop-i
invariant-loop-i g l =
    (l.k ≤ l.i)
    × ((owner : ℕ → ℕ) (c : ℕ)
    → ((i : ℕ) → i < l.span.count → owner (l.span.base + l.span.size * i) ≡ c → (l.low ≤ i) × (i < l.high))
    → (i : ℕ) → l.k ≤ i → i < l.i → i < l.span.count → Only owner c (goal.F-post g l.test) (l.span.base + l.span.size * i) false)
