use mathlib.Core.Path.{refl, ◌∙◌}
use native.Mathlib.Omega.{arith}
use Rattle.snapshot.proofs.Laws.{rows_whole, after_head}
use Rattle.check_records.specs.chains.Chains.{mixed}
use Rattle.check_records.proofs.chains.Laws.{mixed_go, mixed_end}
use Rattle.check_records.proofs.chains.keys.mix.Goals as goal

pub loop-i-init : goal.loop-i-init
loop-i-init c = (omega arith, omega arith, rows_whole (mixed _) _ _)

pub loop-i-preserved : goal.loop-i-preserved
loop-i-preserved c =
    let l = c.loop-i in
    let h = c.loop-i-test.true in (
      omega arith,
      omega arith,
      mixed_go _ _ _ _ _ l.invariant.2 (omega arith) (c.field.ensures ∙ after_head c.args.words.now
          c.args.head l.i) refl,
    )

pub returns : goal.returns
returns c = mixed_end _ _ _ _ _ c.loop-i.invariant.2 (omega arith)
