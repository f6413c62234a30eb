-- What a join keeps: the printed lines of both inputs' questions.
use Rattle.std.specs.Prelude.{ℕ, ◌≡◌, List}
use Rattle.snapshot.specs.Limits.{area_limit}
use Rattle.snapshot.specs.Refusals.{unknown_refusal}
use Rattle.snapshot.specs.Records.{Snapshot}
use Rattle.check_rules.specs.Verdict.{accept, verdict}
use Rattle.find_path_spec.specs.declared.Question.{Question}
use Rattle.find_path_spec.specs.Report.{report_of}
use Rattle.find_path_spec.specs.Line.{line_of}
use Rattle.join_rules.specs.Joined.{first_numbers, second_numbers, question_to, joined}

-- the question is not refused by 23: it speaks of a definition and a module of the snapshot, or another number refuses it first
abbrev pub Answered : List ℕ → Question → Type 0
Answered W q = (report_of W area_limit q).number ≡ unknown_refusal → ⊥

-- Y is the join of W and X: whatever question is put with its numbers moved has on Y the line that it has on its input, byte for byte
pub record Kept (W X Y : List ℕ) : Type 0 where
  pub first : Snapshot
  pub second : Snapshot
  pub one : verdict W ≡ accept first
  pub two : verdict X ≡ accept second
  pub same : verdict Y ≡ accept (joined first second)
  pub firsts : (q : Question) → Answered W q → line_of Y (question_to first_numbers q) ≡ line_of W q
  pub seconds : (q : Question) → Answered X q → line_of Y (question_to (second_numbers first second) q) ≡ line_of X q
