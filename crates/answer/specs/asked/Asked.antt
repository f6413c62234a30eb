-- Questions on words that an earlier call accepted: the answers are those of the calls that check, and the words stay as they are for the next.
use Rattle.std.specs.Prelude.{ℕ, ◌≡◌, List, length, drop}
use Rattle.snapshot.specs.Limits.{area_limit}
use Rattle.find_path_spec.specs.declared.Question.{Question}
use Rattle.find_path_spec.specs.declared.Report.{Report}
use Rattle.find_path_spec.specs.Report.{report_of}
use Rattle.answer.specs.batch.Batch.{batch_fault, reports_after}
use Rattle.answer.specs.asked.StillChecked.{StillChecked}

-- what a call leaves of the work area A₀: the tables, and the words past its first 16,384
pub record Stays (W A₀ C A : List ℕ) : Type 0 where
  pub checked : StillChecked W A C
  pub rest : drop area_limit A ≡ drop area_limit A₀

pub record Asked (W A₀ C : List ℕ) (q : Question) (A : List ℕ) (r : Report) : Type 0 where
  pub report : r ≡ report_of W (length A₀) q
  pub stays : Stays W A₀ C A

-- Q are the words of the questions; R₀ are the words for the reports before the call, R after it; r is the number of the refusal of the whole
-- call
pub record AskedEach (W A₀ C Q R₀ A R : List ℕ) (r : ℕ) : Type 0 where
  pub number : r ≡ batch_fault (length A₀) (length Q) (length R₀)
  pub reports : R ≡ reports_after W Q R₀ r
  pub stays : Stays W A₀ C A
