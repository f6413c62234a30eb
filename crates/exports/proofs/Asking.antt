-- A question, its report and the work area.
use Prim.Native.Nat.{ℕ}
use mathlib.Core.Path.{◌≡◌, ◌∙◌, ap}
use mathlib.Core.Bool.{Bool}
use mathlib.Core.List.{List}
use lib.ListN.{length}
use Rattle.find_path_spec.specs.declared.Question.{Question}
use Rattle.find_path_spec.specs.declared.Report.{Report}
use Rattle.find_path_spec.specs.Report.{report_of}
use Rattle.answer.specs.Answers.{Answers}
use Rattle.reports.specs.Written.{Written, written_to}
use Rattle.answer.specs.asked.Asked.{Asked}
use Rattle.exports.specs.Questions.{Reported, ReportedChecked}

pub asked : (W A₀ A : List ℕ) (q p : Question) (r : Report) (old new : List ℕ) (b : Bool) → p ≡ q → Answers W A₀ p A r
    → Written r old new b → Reported W A₀ q A old new b
asked W A₀ A q p r old new b e k w =
    record {
      report = w.words ∙ ap (λ x. written_to x old) (k.report ∙ ap (report_of W (length A₀)) e);
      done = w.done;
      area = k.area;
    }

pub asked_checked : (W A₀ C A : List ℕ) (q p : Question) (r : Report) (old new : List ℕ) (b : Bool) → p ≡ q → Asked W A₀ C p A r
    → Written r old new b → ReportedChecked W A₀ C q A old new b
asked_checked W A₀ C A q p r old new b e k w =
    record {
      report = w.words ∙ ap (λ x. written_to x old) (k.report ∙ ap (report_of W (length A₀)) e);
      done = w.done;
      stays = k.stays;
    }
