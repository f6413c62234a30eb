use Prim.Native.Nat.{◌%◌}
use mathlib.Core.Path.{ap}
use lib.Dec.{eqb}
use Rattle.hir_def.proofs.item_scope.is_declared.Goals as goal

pub returns : goal.returns
returns c = ap (λ n. eqb (n % 2) 1) c.scope_declared.ensures
