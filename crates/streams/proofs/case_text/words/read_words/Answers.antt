use Rattle.std.proofs.Common.{sym, refl, ap, ◌∙◌}
use Rattle.streams.specs.case_text.Words.{under_way, read_to, stored, words_read}
use Rattle.streams.proofs.case_text.Laws.{read_digit, read_gap, read_star, read_done}
use Rattle.streams.proofs.case_text.words.read_words.Goals as goal
use Rattle.streams.proofs.case_text.words.read_words.Goals.{in-Digit, in-Gap, in-Star}

pub loop-b-init : goal.loop-b-init
unfolding words_read
loop-b-init c = (refl, refl)

pub loop-b-preserved : goal.loop-b-preserved
loop-b-preserved c =
    let l = c.loop-b in
    let t = c.loop-b-test.true in
    elim c.match-mark_of.branch [
      | in-Digit w ↦
          let e = w.in-Digit.ensures in
          rw (w.words-is, w.n-is, w.word-is) (l.invariant.0, read_digit _ _ _ _ t _ _ _ e.code e.digit w.with_digit.ensures ∙ l.invariant.1)
      | in-Gap w ↦
          let s = w.store-n in
          let e = s.ensures ∙ ap (λ o. stored (read_to l.words l.n) (under_way o) 16) w.take.ensures.value in
          rw (w.words-is, w.n-is, w.word-is, w.take.ensures.after)
          (s.auto.words ∙ l.invariant.0, read_gap _ _ _ _ t _ _ _ w.in-Gap.ensures.code e ∙ l.invariant.1)
      | in-Star w ↦
          let s = w.store-n-in-Star in
          let r = w.repeat_last-n in
          let e = s.ensures ∙ ap (λ o. stored (read_to l.words l.n) (under_way o) 16) w.take-in-Star.ensures.value in
          rw (w.words-is, w.n-is, w.word-is, w.take-in-Star.ensures.after)
          (r.auto.words ∙ s.auto.words ∙ l.invariant.0, read_star _ _ _ _ t _ _ _ w.in-Star.ensures.code e r.ensures ∙ l.invariant.1)
    ]

pub returns : goal.returns
returns c = sym (read_done _ c.loop-b.b-index _ _ c.loop-b-test.false) ∙ c.loop-b.invariant.1
