-- Privacy as a test that computes; proofs/Privately.antt: it is privacy.
use Rattle.std.specs.Prelude.{ℕ, zero, suc, Bool}
use Rattle.snapshot.specs.Records.{Snapshot}
use Rattle.module_tree.specs.rules.Modules.{parent_of, block_of, containing}
use Rattle.module_tree.specs.rules.Visibility.{last, met}

unfoldable pub of_root : ℕ → ℕ → ℕ
of_root zero b = b
of_root (suc p) b = 0

-- from the root of a block's map to the block's parent
unfoldable pub block_step : Snapshot → ℕ → ℕ
block_step s t = of_root (parent_of s t) (block_of s t)

-- the module in which t stands
unfoldable pub module_around : Snapshot → ℕ → ℕ
module_around s t = last (block_step s) t

unfoldable pub privately : Snapshot → ℕ → ℕ → Bool
privately s v t = met (containing s) v (module_around s t)
