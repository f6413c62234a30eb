-- Questions of a call and their words, computed: an edit of a definition is told by these rows first.
use Prim.Native.Nat.{ℕ}
use mathlib.Core.Path.{◌≡◌, refl}
use mathlib.Core.Bool.{true, false}
use mathlib.Core.List.{List, [], ◌∷◌, map}
use Rattle.find_path_spec.specs.declared.Question.{Question}
use Rattle.reports.specs.questions.Questions.{questions_of}
use Rattle.reports.specs.questions.Fits.{batch_fits}

-- words of questions, and words for the reports
pub record Room : Type 0 where
  pub questions : ℕ
  pub reports : ℕ

abbrev room : ℕ → ℕ → Room
room q r = record { questions = q; reports = r }

-- no question, three, and 64; a word short for three reports; a word more than three questions; 65
pub fit :
    map (λ r. batch_fits r.questions r.reports) (room 0 0 ∷ room 21 126 ∷ room 448 2688 ∷ room 21 125 ∷ room 22 168 ∷ room 455 2730 ∷ [])
    ≡ true ∷ true ∷ true ∷ false ∷ false ∷ false ∷ []
unfolding batch_fits
fit = refl

-- the fields of a question, as they stand in its words
pub fields : Question → List ℕ
fields q =
    q.query.ns ∷ q.query.definition.0 ∷ q.query.from.0 ∷ q.query.prefix ∷ q.query.options ∷ q.fuel ∷ q.query.limit ∷ []

pub two : map fields (questions_of 2 (1 ∷ 2 ∷ 3 ∷ 4 ∷ 5 ∷ 6 ∷ 7 ∷ 8 ∷ 9 ∷ 10 ∷ 11 ∷ 12 ∷ 13 ∷ 14 ∷ []))
    ≡ (1 ∷ 2 ∷ 3 ∷ 4 ∷ 5 ∷ 6 ∷ 7 ∷ []) ∷ (8 ∷ 9 ∷ 10 ∷ 11 ∷ 12 ∷ 13 ∷ 14 ∷ []) ∷ []
unfolding fields questions_of
two = refl
