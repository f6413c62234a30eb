use Prim.Native.Nat.{◌/◌, ◌%◌}
use mathlib.Core.Path.{ap}
use lib.Dec.{eqb}
use Rattle.hir_def.proofs.import_map.is_unstable.Goals as goal

pub returns : goal.returns
returns c = ap (λ n. eqb (n / 2 % 2) 1) c.import_bits.ensures
