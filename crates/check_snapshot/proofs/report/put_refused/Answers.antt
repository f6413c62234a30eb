use Rattle.std.proofs.Common.{sym, ap, ◌∙◌}
use Rattle.printing.proofs.Laws.{put_as}
use Rattle.printing.specs.wording.Text.{refusal}
use Rattle.check_snapshot.proofs.Laws.{form_same, text_asked, text_other, text_unasked}
use Rattle.check_snapshot.proofs.report.put_refused.Goals as goal
use Rattle.check_snapshot.proofs.report.put_refused.Goals.{else-eq-via-then-eq+else-asks_at, else-eq-via-else-eq}

pub returns-then-asks_at : goal.returns-then-asks_at
returns-then-asks_at c =
    text_asked _ _ _ (sym (c.eq.ensures ∙ form_same _) ∙ c.if-eq.true) (sym c.asks_at.ensures ∙ c.if-asks_at.true) c.put_asked.ensures

pub returns : goal.returns
returns c =
    elim c.else-eq.branch [
      | else-eq-via-then-eq+else-asks_at w ↦ text_unasked _ _ _ (sym w.asks_at.ensures ∙ w.if-asks_at.false)
          (put_as (ap (λ n. refusal n c.args.no.at) c.number.ensures.same) c.put_refusal.ensures)
      | else-eq-via-else-eq w ↦ text_other _ _ _ (sym (c.eq.ensures ∙ form_same _) ∙ w.if-eq.false)
          (put_as (ap (λ n. refusal n c.args.no.at) c.number.ensures.same) c.put_refusal.ensures)
    ]
