-- An input of the printer: the words of a snapshot, and behind them one question.
use Rattle.std.specs.Prelude.{ℕ, ◌+◌, ◌*◌, ◌≤◌, ◌<◌, ◌≡◌, List, [], ◌∷◌, ◌++◌, length}
use Rattle.snapshot.specs.Limits.{word_limit}
use Rattle.snapshot.specs.Sizes.{question_size}
use Rattle.printing.specs.Input.{words_in}
use Rattle.find_path_spec.specs.declared.Question.{Question}

-- one more than the largest number that a head's payload or an argument can be
abbrev pub number_limit : ℕ
number_limit = 268435456

-- a head of kind 12, and six arguments
unfoldable pub question_words : Question → List ℕ
question_words q =
    (12 * number_limit + q.query.definition.0) ∷ q.query.ns ∷ q.query.from.0 ∷ q.query.prefix
    ∷ q.query.options ∷ q.fuel ∷ q.query.limit ∷ []

-- the question can be written in words
pub record Writable (q : Question) : Type 0 where
  pub definition : q.query.definition.0 < number_limit
  pub ns : q.query.ns < number_limit
  pub from : q.query.from.0 < number_limit
  pub prefix : q.query.prefix < number_limit
  pub options : q.query.options < number_limit
  pub fuel : q.fuel < number_limit
  pub limit : q.query.limit < number_limit

-- the bytes B hold the words T, four bytes each
pub record Holds (B T : List ℕ) : Type 0 where
  pub size : length B ≡ 4 * length T
  pub words : words_in B (length T) ≡ T

-- B is the input with the snapshot's words W and the question
abbrev pub Asks : List ℕ → List ℕ → Question → Type 0
Asks B W q = Holds B (W ++ question_words q)

-- the words and seven of a question fit the printer: 16,384 words are 65,536 bytes
abbrev pub Room : List ℕ → Type 0
Room W = length W + question_size ≤ word_limit
