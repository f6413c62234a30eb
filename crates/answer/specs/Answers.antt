-- What an entry point promises: the report, and the work area.
use Rattle.std.specs.Prelude.{ℕ, ◌≡◌, List, ◌++◌, true, false, ltb, length, drop, replicate}
use Rattle.snapshot.specs.Limits.{area_limit}
use Rattle.find_path_spec.specs.declared.Question.{Question}
use Rattle.find_path_spec.specs.declared.Report.{Report}
use Rattle.find_path_spec.specs.Report.{report_of}

unfoldable pub zeros : ℕ → List ℕ
zeros n = replicate n 0

-- A work area that is too small stays. Any other is zero in its first 16,384 words after every call, and stays past them.
unfoldable pub area_after : List ℕ → List ℕ
area_after A = elim (ltb (length A) area_limit) [ true ↦ A | false ↦ zeros area_limit ++ drop area_limit A ]

-- W are the words, A₀ the work area before the call, A the one after it
pub record Answers (W A₀ : List ℕ) (q : Question) (A : List ℕ) (r : Report) : Type 0 where
  pub report : r ≡ report_of W (length A₀) q
  pub area : A ≡ area_after A₀
