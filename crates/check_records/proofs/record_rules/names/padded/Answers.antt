use mathlib.Core.Path.{◌∙◌}
use native.Mathlib.Omega.{arith}
use Rattle.check_rules.specs.Tests.{padded}
use Rattle.snapshot.proofs.Laws.{rows_whole, after_head}
use Rattle.check_records.proofs.record_rules.Laws.{padded_stop, padded_go, padded_end}
use Rattle.check_records.proofs.record_rules.names.padded.Goals as goal

pub loop-i-init : goal.loop-i-init
loop-i-init c = (omega arith, rows_whole (padded _) _ _)

pub returns-then-most-field : goal.returns-then-most-field
returns-then-most-field c =
    let l = c.loop-i in
    padded_stop _ _ _ _ _ l.invariant.1 (omega arith) c.text_bound-most.ensures (c.field.ensures
    ∙ after_head c.args.words.now c.args.head l.i) c.if-most-field.true

pub loop-i-preserved : goal.loop-i-preserved
loop-i-preserved c =
    let l = c.loop-i in (
      omega arith,
      padded_go _ _ _ _ _ l.invariant.1 (omega arith) c.text_bound-most.ensures (c.field.ensures
          ∙ after_head c.args.words.now c.args.head l.i) c.if-most-field.false c.saturating_sub-b.ensures,
    )

pub returns : goal.returns
returns c = padded_end _ _ _ _ _ c.loop-i.invariant.1 (omega arith)
