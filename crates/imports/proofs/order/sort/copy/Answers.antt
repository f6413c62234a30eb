use native.Mathlib.Omega.{arith}
use mathlib.Core.Path.{◌≡◌, refl}
use Rattle.imports.proofs.order.Merges.{copied_none, copied_more}
use Rattle.imports.proofs.order.sort.copy.Goals as goal

pub loop-i-init : goal.loop-i-init
loop-i-init c = (omega arith, copied_none _ _)

pub loop-i-preserved : goal.loop-i-preserved
loop-i-preserved c = (omega arith, copied_more _ _ _ _ _ c.loop-i.invariant.1 (omega arith) (omega arith) refl)

pub returns : goal.returns
returns c =
    let e : c.loop-i.i ≡ c.args.n = omega arith in
    rw e at c.loop-i.invariant.1
