use mathlib.Core.Path.{sym}
use native.Mathlib.Omega.{arith}
use Rattle.snapshot.specs.Ids.{plus_one}
use Rattle.snapshot.proofs.ids.opt_module.Goals as goal

pub returns-then-n-eq0 : goal.returns-then-n-eq0
unfolding plus_one
returns-then-n-eq0 c = sym c.if-n-eq0.true

pub returns : goal.returns
unfolding plus_one
returns c = let h = c.if-n-eq0.false in omega arith
