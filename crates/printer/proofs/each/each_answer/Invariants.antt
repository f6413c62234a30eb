use Rattle.std.specs.Prelude.{◌-◌, ◌≤◌, ℕ, List, length, Ok}
use Rattle.std.specs.Fn.{CalledAt}
use Rattle.std.specs.List.{FoldsTo}
use Rattle.snapshot.specs.Limits.{routed_limit}
use Rattle.accept.specs.Post.{Judged}
use Rattle.printer.specs.Printed.{Turns}
use Rattle.printer.proofs.each.each_answer.Given as goal

-- what is given from a place on makes, with what was given before, all that is given
abbrev pub invariant-loop-at : goal.invariant-loop-at
invariant-loop-at g l =
    goal.F-IsAlwaysCallable g l.each × Judged l.snapshot l.area l.c × (routed_limit ≤ length l.out)
    × ((later : List (List ℕ)) (last : _) → Turns l.words l.snapshot l.c l.at later
    → FoldsTo (λ p t q. CalledAt g.F.FnMut p t (Ok tt) q) l.each later last
    → (texts : List (List ℕ)) × Turns l.words l.snapshot l.c l.k texts
    × FoldsTo (λ p t q. CalledAt g.F.FnMut p t (Ok tt) q) l.initial.each texts last)

abbrev pub decreases-loop-at : goal.decreases-loop-at
decreases-loop-at g l = length l.words - l.at
