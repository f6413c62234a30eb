-- What the entry point that prints a line promises.
use Rattle.std.specs.Prelude.{ℕ, ◌≡◌, List, [], ◌++◌, true, false, ltb, length, drop}
use Rattle.snapshot.specs.Limits.{line_limit}
use Rattle.check_rules.specs.Verdict.{verdict}
use Rattle.find_path_spec.specs.declared.Question.{Question}
use Rattle.find_path_spec.specs.Report.{report_of}
use Rattle.find_path_spec.specs.Line.{bytes_of, line_in, snapshot_of}
use Rattle.answer.specs.Answers.{area_after}

-- the line of a question and its end, with a work area of so many words; nothing where there is no room for the longest line
unfoldable pub ended_line : List ℕ → ℕ → Question → ℕ → List ℕ
ended_line W area q room =
    elim (ltb room line_limit) [ true ↦ [] | false ↦ line_in (snapshot_of (verdict W)) q.query.from.0 (report_of W area q) ++ bytes_of "\n" ]

-- W are the words; A₀ and old the work area and the bytes before the call, A and new those after it; n is what it answers
pub record Lined (W A₀ : List ℕ) (q : Question) (old A new : List ℕ) (n : ℕ) : Type 0 where
  pub count : n ≡ length (ended_line W (length A₀) q (length old))
  pub bytes : new ≡ ended_line W (length A₀) q (length old) ++ drop n old
  pub area : A ≡ area_after A₀
