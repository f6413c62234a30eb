-- The report of a question, as words.
use Rattle.std.specs.Prelude.{ℕ, ◌≡◌, Bool, List, leb, length}
use Rattle.find_path_spec.specs.declared.Question.{Question}
use Rattle.find_path_spec.specs.Report.{report_of}
use Rattle.answer.specs.Answers.{area_after}
use Rattle.reports.specs.Written.{written_to, report_size}
use Rattle.answer.specs.asked.Asked.{Stays}

-- the report of the question q is written to the words old, where they are enough, of which b tells
pub record Reported (W A₀ : List ℕ) (q : Question) (A old new : List ℕ) (b : Bool) : Type 0 where
  pub report : new ≡ written_to (report_of W (length A₀) q) old
  pub done : b ≡ leb report_size (length old)
  pub area : A ≡ area_after A₀

-- the same on words that an earlier call accepted: C are the numbers that it wrote, and words and tables stay
pub record ReportedChecked (W A₀ C : List ℕ) (q : Question) (A old new : List ℕ) (b : Bool) : Type 0 where
  pub report : new ≡ written_to (report_of W (length A₀) q) old
  pub done : b ≡ leb report_size (length old)
  pub stays : Stays W A₀ C A
