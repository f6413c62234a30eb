-- The check's answer as numbers.
use Prim.Native.Nat.{ℕ, ◌≤◌, ◌<◌}
use mathlib.Core.Path.{◌≡◌, refl, sym, ◌∙◌, ap, subst, subst⁻¹}
use mathlib.Core.List.{List, [], ◌∷◌}
use lib.Dec.{ltb}
use lib.ListN.{length, drop}
use borrow.Author.Tests.{ltb-true, ltb-false}
use native.Mathlib.Omega.{arith}
use Rattle.snapshot.specs.Limits.{area_limit}
use Rattle.snapshot.specs.Refusals.{area_refusal}
use Rattle.snapshot.specs.Records.{Snapshot}
use Rattle.snapshot.specs.Layouts.{snap_of}
use Rattle.snapshot.specs.declared.layout.Layout.{Layout}
use Rattle.snapshot.proofs.Laws.{length_rows}
use Rattle.check_rules.specs.Verdict.{Verdict, refuse, accept, verdict}
use Rattle.std.specs.Prelude.{Ok, Err}
use Rattle.snapshot.specs.Refusals.{refusal_number}
use Rattle.accept.specs.Post.{Checked, Checks, check_of}
use Rattle.accept.specs.declared.check.Refused.{Refused}
use Rattle.accept.proofs.Accepted.{by_test}
use Rattle.answer.specs.Answers.{area_after}
use Rattle.answer.specs.asked.StillChecked.{counted, StillChecked}
use Rattle.answer.proofs.asked.Numbers.{refusal_positive}
use Rattle.edits.proofs.Fresh.{accept_same}
use Rattle.exports.specs.Answers.{number_of, answer_of, Answered}

IsRefused : Verdict → Type 0
IsRefused (refuse n at) = Unit
IsRefused (accept s) = ⊥

apart : (n at : ℕ) (s : Snapshot) → refuse n at ≡ accept s → ⊥
unfolding IsRefused
apart n at s e = subst IsRefused e tt

-- accepted words have a work area that serves
judged : (n : ℕ) (W : List ℕ) (s : Snapshot) → check_of n W ≡ accept s → verdict W ≡ accept s
unfolding check_of
judged n W s e =
    by_test (ltb n area_limit)
    (λ t. absurd (apart area_refusal 0 s (sym (rw (check_of, t)) ∙ e)))
    (λ t. sym (rw (check_of, t)) ∙ e)

counted_same : (W A : List ℕ) (l : Layout) → counted l ≡ answer_of (accept (snap_of W A l))
counted_same W A l = simp length_rows

-- an area that was used is cleared as before its use
area_used : (A₀ A : List ℕ) → length A ≡ length A₀ → drop 16384 A ≡ drop 16384 A₀ → (length A₀ < 16384 → A ≡ A₀) → area_after A ≡ area_after A₀
unfolding area_after
area_used A₀ A n d u =
    by_test (ltb (length A₀) 16384)
    (λ t. ap area_after (u (ltb-true (length A₀) 16384 t)))
    (λ t. rw (area_after, n, t, d))

module _ (W A₀ A : List ℕ) (r : Checked) (k : Checks W A₀ A r) where
  pub answered_refused : (B : List ℕ) → length A ≡ length A₀ → B ≡ area_after A → (f : Refused) (n : ℕ) → n ≡ refusal_number f.why → r ≡ Err f
      → Answered W A₀ B (n ∷ f.at ∷ 0 ∷ 0 ∷ 0 ∷ 0 ∷ 0 ∷ 0 ∷ 0 ∷ 0 ∷ 0 ∷ 0 ∷ 0 ∷ 0 ∷ []) n
  answered_refused B l c f n g e =
      let q : Checks W A₀ A (Err f) = subst (Checks W A₀ A) e k in
      subst⁻¹ (λ (m : ℕ). Answered W A₀ B (m ∷ f.at ∷ 0 ∷ 0 ∷ 0 ∷ 0 ∷ 0 ∷ 0 ∷ 0 ∷ 0 ∷ 0 ∷ 0 ∷ 0 ∷ 0 ∷ []) m) g
      (record {
        same = ap answer_of q.same;
        number = ap number_of q.same;
        tables = λ s h. absurd (apart (refusal_number f.why) f.at s (q.same ∙ h));
        rest = λ s h. absurd (apart (refusal_number f.why) f.at s (q.same ∙ h));
        cleared = λ m p h. c ∙ area_used A₀ A l q.rest q.untouched;
      })

  pub answered_accepted : (l : Layout) → r ≡ Ok l
      → Answered W A₀ A (counted l) 0
  answered_accepted l e =
      let q : Checks W A₀ A (Ok l) = subst (Checks W A₀ A) e k in
      record {
        same = counted_same W A l ∙ ap answer_of q.same;
        number = ap number_of q.same;
        tables = λ s h. (
          l,
          record { same = judged (length A₀) W (snap_of W A l) (sym q.same); tables = q.tables },
          accept_same (snap_of W A l) s (q.same ∙ h),
        );
        rest = λ s h. q.rest;
        cleared = λ m p h. absurd (apart m p (snap_of W A l) (sym h ∙ sym q.same));
      }

-- accepted words have a work area that serves
roomy : (n : ℕ) (W : List ℕ) (s : Snapshot) → check_of n W ≡ accept s → area_limit ≤ n
unfolding check_of
roomy n W s e =
    by_test (ltb n area_limit)
    (λ t. absurd (apart area_refusal 0 s (sym (rw (check_of, t)) ∙ e)))
    (λ t. ltb-false n area_limit t)

-- what the calls on checked words ask for, the check gives: whenever it answers 0
module _ (W A₀ A answer : List ℕ) (k : Answered W A₀ A answer 0) (n : length A ≡ length A₀) where
  pub still_checked : StillChecked W A answer
  still_checked = go (check_of (length A₀) W) refl
    where
      go : (v : Verdict) → check_of (length A₀) W ≡ v → StillChecked W A answer
      go (refuse m at) e = absurd (omega (arith, refusal_positive (length A₀) W m at e, k.number ∙ ap number_of e))
      go (accept s) e =
          let t = k.tables s e in
          let l = t.0 in
          record {
            layout = l;
            reads = t.1;
            counts = k.same ∙ ap answer_of (e ∙ ap accept (sym t.2)) ∙ sym (counted_same W A l);
            room = omega (arith, n, roomy (length A₀) W s e);
          }
