use mathlib.Core.Path.{refl}
use native.Mathlib.Omega.{arith}
use Rattle.told_paths.proofs.Laws.{more_long, more_short}
use Rattle.told_paths.proofs.paths.more.Goals as goal

pub returns-then-t-ge-LIMIT : goal.returns-then-t-ge-LIMIT
returns-then-t-ge-LIMIT c =
    λ p e. more_long p _ e c.if-t-ge-LIMIT.true refl c.long.ensures

pub returns : goal.returns
returns c = λ p e. more_short p _ e (omega (arith, c.if-t-ge-LIMIT.false)) refl
