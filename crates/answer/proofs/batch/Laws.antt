-- Laws of questions and reports, one after the other.
use Prim.Native.Nat.{ℕ, zero, suc, ◌+◌, ◌-◌, ◌*◌, ◌≤◌, ◌<◌}
use mathlib.Core.Path.{◌≡◌, refl, sym, ◌∙◌, ap, ap₂}
use mathlib.Core.Bool.{Bool, true, false}
use mathlib.Core.List.{List, [], ◌∷◌, ◌++◌, append_assoc, append-nil}
use native.Mathlib.Omega.{arith}
use native.Mathlib.Numerals.{add-one}
use borrow.Author.Tests.{lt-ltb, le-ltb}
use borrow.Rule.Slice.PartMut.{mid_of, put_mid, Post-is}
use lib.ListN.{length, take, drop, length-append, length-drop}
use lib.Seq.{take_at, drop_at, drop-drop, drop-length}
use Rattle.snapshot.specs.Limits.{area_limit}
use Rattle.snapshot.specs.Refusals.{area_refusal, batch_refusal}
use Rattle.snapshot.specs.Sizes.{question_size}
use Rattle.find_path_spec.specs.declared.Question.{Question}
use Rattle.find_path_spec.specs.declared.Report.{Report}
use Rattle.find_path_spec.specs.Report.{report_of}
use Rattle.reports.specs.Written.{report_words, written_to, Written, report_size}
use Rattle.reports.specs.questions.Questions.{question_of, questions_of}
use Rattle.reports.specs.questions.Fits.{batch_fits}
use Rattle.reports.proofs.questions.Laws.{mid_end}
use Rattle.answer.specs.Answers.{zeros}
use Rattle.answer.proofs.Areas.{area_small, area_large}
use Rattle.answer.specs.batch.Batch.{batch_fault, reports_of, reports_to, reports_after, Batch}

-- the whole call

module _ (W A Q R : List ℕ) where
  pub batch_small : length A < area_limit → Batch W A Q R A R area_refusal
  unfolding batch_fault reports_after
  batch_small h = record { number = sym (rw (batch_fault, lt-ltb _ _ h)); area = area_small A h; reports = refl }

  module _ (h : area_limit ≤ length A) (B : List ℕ) (z : B ≡ zeros area_limit) (b : Bool) (e : b ≡ batch_fits (length Q) (length R)) where
    pub batch_not : b ≡ false → Batch W A Q R (B ++ drop area_limit A) R batch_refusal
    unfolding batch_fault reports_after
    batch_not f = record { number = sym (rw (batch_fault, le-ltb _ _ h, sym e, f)); area = area_large A B h z; reports = refl }

    pub batch_all : b ≡ true → (S : List ℕ) → S ≡ reports_to W Q R → Batch W A Q R (B ++ drop area_limit A) S 0
    unfolding batch_fault reports_after
    batch_all f S k = record { number = sym (rw (batch_fault, le-ltb _ _ h, sym e, f)); area = area_large A B h z; reports = k }

-- one question more

questions_next : (n : ℕ) (Q : List ℕ) → questions_of (suc n) Q ≡ questions_of n Q ++ (question_of (drop (question_size * n) Q) ∷ [])
unfolding questions_of
questions_next zero Q = refl
questions_next (suc n) Q =
    let e : question_size + question_size * n ≡ question_size * suc n = omega arith in
    ap (λ qs. question_of Q ∷ qs) (questions_next n (drop question_size Q))
    ∙ ap (λ (x : List ℕ). question_of Q ∷ (questions_of n (drop question_size Q) ++ (question_of x ∷ [])))
    (drop-drop (question_size * n) question_size Q ∙ ap (λ k. drop k Q) e)

reports_next : (W : List ℕ) (qs : List Question) (q : Question) → reports_of W (qs ++ (q ∷ [])) ≡ reports_of W qs ++ report_words
    (report_of W area_limit q)
unfolding reports_of
reports_next W [] q = append-nil (report_words (report_of W area_limit q))
reports_next W (p ∷ qs) q =
    ap (λ x. report_words (report_of W area_limit p) ++ x) (reports_next W qs q)
    ∙ sym (append_assoc (report_words (report_of W area_limit p)) (reports_of W qs) (report_words (report_of W area_limit q)))

-- a part that goes on to the end

put_end : (a : ℕ) (l m : List ℕ) → a ≤ length l → put_mid a (length l - a) l m ≡ take a l ++ m
put_end a l m h =
    ap (λ x. take a l ++ (m ++ x)) (Post-is a (length l) l h ∙ drop-length l) ∙ ap (λ x. take a l ++ x) (append-nil m)

module _ (W Q R₀ : List ℕ) where
  -- the first i reports are written
  pub record Reported (i : ℕ) (R : List ℕ) : Type 0 where
    pub long : length (reports_of W (questions_of i Q)) ≡ report_size * i
    pub same : R ≡ reports_of W (questions_of i Q) ++ drop (report_size * i) R₀

  pub none_reported : Reported 0 R₀
  unfolding questions_of reports_of
  none_reported = record { long = refl; same = refl }

  pub all_reported : (i : ℕ) (R : List ℕ) → Reported i R → (n : ℕ) → i ≤ n → n ≤ i → R ≡ reports_of W (questions_of n Q) ++ drop (report_size * n) R₀
  all_reported i R p n h k =
      let e : i ≡ n = omega arith in
      p.same ∙ ap (λ x. reports_of W (questions_of x Q) ++ drop (report_size * x) R₀) e

  module _ (i : ℕ) (R : List ℕ) (p : Reported i R) (q : Question) (r : Report)
      (e : q ≡ question_of (mid_of (question_size * i) (length Q - question_size * i) Q)) (f : r ≡ report_of W area_limit q) where
    -- the words of the reports with that of one question more
    next_words : reports_of W (questions_of (i + 1) Q) ≡ reports_of W (questions_of i Q) ++ report_words r
    next_words =
        ap (λ n. reports_of W (questions_of n Q)) (add-one i)
        ∙ ap (reports_of W) (questions_next i Q)
        ∙ reports_next W (questions_of i Q) (question_of (drop (question_size * i) Q))
        ∙ ap (λ (x : Report). reports_of W (questions_of i Q) ++ report_words x)
        (ap (λ (x : List ℕ). report_of W area_limit (question_of x)) (sym (mid_end (question_size * i) Q))
        ∙ ap (report_of W area_limit) (sym e) ∙ sym f)

    module _ (l : length R ≡ length R₀) (h : report_size * (i + 1) ≤ length R₀) (m : List ℕ) (b : Bool)
        (w : Written r (mid_of (report_size * i) (length R - report_size * i) R) m b) where
      rest : mid_of (report_size * i) (length R - report_size * i) R ≡ drop (report_size * i) R₀
      rest = mid_end (report_size * i) R ∙ ap (drop (report_size * i)) p.same ∙ drop_at (reports_of W (questions_of i Q))
          (drop (report_size * i) R₀) (report_size * i) p.long

      enough : report_size ≤ length (drop (report_size * i) R₀)
      enough = omega (arith, h, length-drop (report_size * i) R₀)

      put_words : m ≡ report_words r ++ drop report_size (drop (report_size * i) R₀)
      unfolding written_to
      put_words = w.words ∙ ap (written_to r) rest ∙ rw (written_to, le-ltb _ _ enough)

      pub one_more_lem : length m ≡ length (mid_of (report_size * i) (length R - report_size * i) R)
          → Reported (i + 1) (put_mid (report_size * i) (length R - report_size * i) R m)
      one_more_lem k =
          let P : List ℕ = reports_of W (questions_of i Q) in
          let T : List ℕ = drop (report_size * i) R₀ in
          let a : length m ≡ length T = k ∙ ap (λ (x : List ℕ). length x) rest in
          let c : length m ≡ length (report_words r) + length (drop report_size T) = ap (λ (x : List ℕ). length x) put_words
          ∙ length-append (report_words r) (drop report_size T) in
          let n : length (report_words r) ≡ report_size = omega (arith, a, c, enough, length-drop report_size T) in
          let u : take (report_size * i) R ≡ P = ap (take (report_size * i)) p.same ∙ take_at P T (report_size * i) p.long in
          let v : report_size * i + report_size ≡ report_size * (i + 1) = omega arith in
          record {
            long = ap (λ (x : List ℕ). length x) next_words ∙ length-append P (report_words r) ∙ ap₂ (λ x y. x + y) p.long n ∙ v;
            same =
                put_end (report_size * i) R m (omega (arith, h, l))
                ∙ ap₂ (λ x y. x ++ y) u put_words
                ∙ sym (append_assoc P (report_words r) (drop report_size T))
                ∙ ap₂ (λ x y. x ++ y) (sym next_words) (drop-drop report_size (report_size * i) R₀ ∙ ap (λ n. drop n R₀) v);
          }
