-- Three questions at once on document 01's worked snapshot, a refused one among them, and calls that are refused whole.
use Prim.Native.Nat.{ℕ}
use mathlib.Core.Path.{◌≡◌, refl}
use mathlib.Core.Bool.{Bool, true, ◌&&◌}
use mathlib.Core.List.{List, [], ◌∷◌, ◌++◌}
use lib.Dec.{eqb}
use lib.ListN.{length, replicate}
use Rattle.snapshot.specs.Lists.{all, eq_list}
use Rattle.check_rules.specs.Worked.{worked}
use Rattle.find_path_spec.proofs.Worked.{passes}
use Rattle.reports.specs.Written.{report_words}
use Rattle.reports.specs.questions.Questions.{questions_of}
use Rattle.reports.specs.questions.Fits.{batch_fits}
use Rattle.answer.specs.batch.Batch.{batch_fault, reports_of, reports_after}

-- the words of the work area, of the questions and of the reports before the call; the number, and the reports after it
pub record Row : Type 0 where
  pub area : ℕ
  pub questions : List ℕ
  pub old : List ℕ
  pub number : ℕ
  pub new : List ℕ

-- the numbers and the reports are those of the definitions; `passes` unfolds the search
pub passes_all : List Row → Bool
unfolding passes batch_fits batch_fault questions_of reports_of reports_after report_words
passes_all table =
    all (λ r. eqb (batch_fault r.area (length r.questions) (length r.old)) r.number
    && eq_list (reports_after worked r.questions r.old r.number) r.new) table

-- the function `f` from the root, with fuel 1, 10,001 and 0
abbrev asked : List ℕ
asked = 1 ∷ 1 ∷ 0 ∷ 1 ∷ 0 ∷ 1 ∷ 15 ∷ 1 ∷ 1 ∷ 0 ∷ 1 ∷ 0 ∷ 10001 ∷ 15 ∷ 1 ∷ 1 ∷ 0 ∷ 1 ∷ 0 ∷ 0 ∷ 15 ∷ []

-- `found a::f 1 0 scope@21 local@29`, `refused 21 0 0`, `none - 0 1` with 15 left
abbrev told : List ℕ
told =
    (0 ∷ 0 ∷ 0 ∷ 0 ∷ 1 ∷ replicate 14 0 ++ (2 ∷ 1 ∷ 0 ∷ 0 ∷ 0 ∷ 2 ∷ 169 ∷ 238 ∷ replicate 15 0))
    ++ ((2 ∷ 21 ∷ replicate 40 0) ++ (1 ∷ replicate 20 0 ++ (1 ∷ 15 ∷ 0 ∷ replicate 18 0)))

abbrev row : ℕ → List ℕ → ℕ → ℕ → List ℕ → Row
row a q n r l = record { area = a; questions = q; old = replicate n 7; number = r; new = l }

pub cases : List Row
cases =
    -- the words past the reports stay
    row 16384 asked 128 0 (told ++ (7 ∷ 7 ∷ []))
    ∷ row 16384 [] 1 0 (7 ∷ [])
    ∷ row 16383 asked 126 20 (replicate 126 7)
    ∷ row 16384 asked 125 44 (replicate 125 7)
    ∷ row 16384 (7 ∷ asked) 128 44 (replicate 128 7)
    -- 65 questions; 20 comes before 44
    ∷ row 16384 (replicate 455 0) 2730 44 (replicate 2730 7)
    ∷ row 16383 (replicate 455 0) 0 20 []
    ∷ []

pub worked_batch : passes_all cases ≡ true
unfolding passes_all cases
worked_batch = refl
