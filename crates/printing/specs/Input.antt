-- Words as they stand in bytes.
use Rattle.std.specs.Prelude.{ℕ, ◌+◌, ◌*◌, List, get_or}
use Rattle.snapshot.specs.Lists.{rows}

-- the word whose four bytes begin at a place, the lowest first
abbrev pub word_in : List ℕ → ℕ → ℕ
word_in B i = get_or B i 0 + 256 * get_or B (i + 1) 0 + 65536 * get_or B (i + 2) 0 + 16777216 * get_or B (i + 3) 0

-- the first n words
abbrev pub words_in : List ℕ → ℕ → List ℕ
words_in B n = rows (λ k. word_in B (4 * k)) 0 n
