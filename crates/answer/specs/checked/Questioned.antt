-- A question on words that were checked.
use Rattle.std.specs.Prelude.{ℕ, ◌≡◌, List, Result, Ok, Err}
use Rattle.snapshot.specs.Limits.{area_limit}
use Rattle.snapshot.specs.Refusals.{refusal_number}
use Rattle.snapshot.specs.declared.refusal.Refusal.{Refusal}
use Rattle.accept.specs.Post.{Judged, Checked}
use Rattle.find_path_spec.specs.declared.Question.{Question}
use Rattle.find_path_spec.specs.declared.Report.{Report}
use Rattle.find_path_spec.specs.Report.{refused, report_of}

-- a report, or the report of a refusal
abbrev pub told : Result Report Refusal → Report
told (Ok r) = r
told (Err k) = refused (refusal_number k)

-- W are the words, A the work area after the call: the report is the same as alone, and the words stay checked for the next question
pub record Questioned (W : List ℕ) (q : Question) (c : Checked) (A : List ℕ) (r : Report) : Type 0 where
  pub report : r ≡ report_of W area_limit q
  pub checked : Judged W A c
