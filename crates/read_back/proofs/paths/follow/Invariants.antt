-- what is left of the names gives the whole
use Prim.Native.Nat.{◌-◌}
use mathlib.Core.Path.{◌≡◌}
use lib.ListN.{get_or, length}
use Rattle.snapshot.specs.Lists.{rows}
use Rattle.read_back.specs.readings.Reads.{follow}
use Rattle.accept.specs.Opened.{snap_in}
use Rattle.read_back.proofs.paths.follow.Given as goal

abbrev pub invariant-loop-k : goal.invariant-loop-k
invariant-loop-k l =
    follow (snap_in l.view.db) l.view.from.0 l.ns l.initial.here (rows (λ i. get_or l.names i 0) l.initial.k (length l.names - l.initial.k))
    ≡ follow (snap_in l.view.db) l.view.from.0 l.ns l.here (rows (λ i. get_or l.names i 0) l.k (length l.names - l.k))
