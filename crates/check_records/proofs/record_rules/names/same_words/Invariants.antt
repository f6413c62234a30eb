use Prim.Native.Nat.{◌+◌, ◌-◌, ◌≤◌}
use mathlib.Core.Path.{◌≡◌}
use lib.ListN.{get_or}
use Rattle.snapshot.specs.Lists.{rows, eq_list}
use Rattle.check_records.proofs.record_rules.names.same_words.Given as goal

abbrev pub invariant-loop-i : goal.invariant-loop-i
invariant-loop-i l = (l.i ≤ l.n)
    × (eq_list (rows (λ j. get_or l.left (l.a + 1 + j) 0) 0 l.n) (rows (λ j. get_or l.right (l.b + 1 + j) 0) 0 l.n)
    ≡ eq_list (rows (λ j. get_or l.left (l.a + 1 + j) 0) l.i (l.n - l.i)) (rows (λ j. get_or l.right (l.b + 1 + j) 0) l.i (l.n - l.i)))
