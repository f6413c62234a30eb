-- Halves of words.
use Rattle.std.specs.Prelude.{ℕ, ◌/◌, ◌%◌, List, true, false, eqb, get_or}

-- the first half of a word, or the second
unfoldable pub half_of : ℕ → ℕ → ℕ
half_of p w = elim (eqb p 0) [ true ↦ w % 65536 | false ↦ w / 65536 % 65536 ]

-- the half i of a list of words
abbrev pub half_at : List ℕ → ℕ → ℕ
half_at A i = half_of (i % 2) (get_or A (i / 2) 0)
