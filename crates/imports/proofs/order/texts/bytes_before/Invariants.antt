use Prim.Native.Nat.{◌≤◌}
use mathlib.Core.Path.{◌≡◌}
use lib.ListN.{drop}
use Rattle.import_rules.specs.Collect.{text_before}
use Rattle.imports.proofs.order.Orders.{front}
use Rattle.imports.proofs.order.texts.bytes_before.Given as goal

abbrev pub invariant-loop-i : goal.invariant-loop-i
invariant-loop-i l = (l.i ≤ l.n) × (text_before (front l.a l.n) (front l.b l.m) ≡ text_before (drop l.i (front l.a l.n)) (drop l.i (front l.b l.m)))
