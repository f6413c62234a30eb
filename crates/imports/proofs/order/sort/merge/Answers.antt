use Prim.Native.Nat.{◌+◌, ◌≤◌}
use mathlib.Core.Path.{refl}
use native.Mathlib.Omega.{arith}
use Rattle.imports.specs.order.Rooms.{heads_room}
use Rattle.imports.proofs.order.Merges.{merging_start, merging_yes, merging_no, merged, runs_ready, runs_order, copied_ready}
use Rattle.imports.proofs.order.sort.merge.Goals as goal

pub loop-i-init : goal.loop-i-init
loop-i-init c = merging_start _ _ _ _ _ _

pub invariant_of-db : goal.invariant_of-db
invariant_of-db c = record { reads = (runs_ready (copied_ready c.requires.0 c.copy.ensures) c.loop-i.invariant.frame (omega arith)).reads }

pub loop-i-preserved-then-second_first : goal.loop-i-preserved-then-second_first
loop-i-preserved-then-second_first c =
    merging_yes _ _ _ _ _ _ _ _ _ _ (omega arith) (omega arith) (omega arith) c.loop-i.invariant _
    (runs_order (copied_ready c.requires.0 c.copy.ensures) c.loop-i.invariant.frame (omega arith))
    c.second_first.ensures c.if-second_first.true _ refl

pub loop-i-preserved : goal.loop-i-preserved
loop-i-preserved c =
    merging_no _ _ _ _ _ _ _ _ _ _ (omega arith) (omega arith) (omega arith) c.loop-i.invariant _
    (runs_order (copied_ready c.requires.0 c.copy.ensures) c.loop-i.invariant.frame (omega arith))
    c.second_first.ensures c.if-second_first.false _ refl

pub returns : goal.returns
returns c =
    let h : c.args.from + c.args.m + c.args.n ≤ heads_room = omega arith in
    merged c.requires.0 h c.loop-i-test.false c.copy.ensures c.loop-i.invariant
