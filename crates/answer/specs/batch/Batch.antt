-- Up to 64 questions with one snapshot.
use Rattle.std.specs.Prelude.{ℕ, zero, suc, ◌*◌, ◌/◌, ◌≡◌, List, [], ◌∷◌, ◌++◌, true, false, ltb, length, drop}
use Rattle.snapshot.specs.Limits.{area_limit}
use Rattle.snapshot.specs.Refusals.{area_refusal, batch_refusal}
use Rattle.snapshot.specs.Sizes.{question_size}
use Rattle.find_path_spec.specs.declared.Question.{Question}
use Rattle.find_path_spec.specs.Report.{report_of}
use Rattle.reports.specs.Written.{report_words, report_size}
use Rattle.reports.specs.questions.Questions.{questions_of}
use Rattle.reports.specs.questions.Fits.{batch_fits}
use Rattle.answer.specs.Answers.{area_after}

-- 20 a small work area; 44 too many questions, a part of one, or too few words for the reports; 0 for none
unfoldable pub batch_fault : ℕ → ℕ → ℕ → ℕ
batch_fault area questions reports =
    elim (ltb area area_limit) [ true ↦ area_refusal | false ↦ elim (batch_fits questions reports) [ true ↦ 0 | false ↦ batch_refusal ] ]

-- the words of the reports that the questions get one at a time, in order
unfoldable pub reports_of : List ℕ → List Question → List ℕ
reports_of W [] = []
reports_of W (q ∷ qs) = report_words (report_of W area_limit q) ++ reports_of W qs

-- the reports of the questions whose words Q are at the front of R, and the words past them as they were
abbrev pub reports_to : List ℕ → List ℕ → List ℕ → List ℕ
reports_to W Q R = reports_of W (questions_of (length Q / question_size) Q) ++ drop (report_size * (length Q / question_size)) R

-- a refusal of the whole call leaves all as it was
unfoldable pub reports_after : List ℕ → List ℕ → List ℕ → ℕ → List ℕ
reports_after W Q R zero = reports_to W Q R
reports_after W Q R (suc n) = R

-- W are the words of the snapshot, Q those of the questions; A₀ and R₀ are the work area and the words for the reports before the
-- call, A and R after it; r is the number of the refusal of the whole call
pub record Batch (W A₀ Q R₀ A R : List ℕ) (r : ℕ) : Type 0 where
  pub number : r ≡ batch_fault (length A₀) (length Q) (length R₀)
  pub area : A ≡ area_after A₀
  pub reports : R ≡ reports_after W Q R₀ r
