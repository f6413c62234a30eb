-- Texts that are read whole: digits, stars, and slices that are too short.
use Rattle.std.proofs.Common.{◌≡◌, [], ◌∷◌, refl}
use Rattle.streams.specs.case_text.Words.{digit_of, next_word, read_to, put_word, stored, raised_by, copied, repeated, read_from, words_read}

-- `1 1f 7`: the last word has no end, and what stands past the words stays
digits : words_read (49 ∷ 32 ∷ 49 ∷ 102 ∷ 32 ∷ 55 ∷ []) (7 ∷ 7 ∷ 7 ∷ []) ≡ read_to (1 ∷ 31 ∷ 7 ∷ []) 2
unfolding digit_of next_word put_word stored raised_by copied repeated read_from words_read
digits = refl

-- `123456789` keeps the last eight digits
long : words_read (49 ∷ 50 ∷ 51 ∷ 52 ∷ 53 ∷ 54 ∷ 55 ∷ 56 ∷ 57 ∷ 10 ∷ []) (0 ∷ []) ≡ read_to (591751049 ∷ []) 1
unfolding digit_of next_word put_word stored raised_by copied repeated read_from words_read
long = refl

-- `5 10000000 2 3 1 4 *`: three words more, each of the one two places before, a head raised by 1 and an argument by 4
star :
    words_read
    (53 ∷ 32 ∷ 49 ∷ 48 ∷ 48 ∷ 48 ∷ 48 ∷ 48 ∷ 48 ∷ 48 ∷ 32 ∷ 50 ∷ 32 ∷ 51 ∷ 32 ∷ 49 ∷ 32 ∷ 52 ∷ 32 ∷ 42 ∷ [])
    (0 ∷ 0 ∷ 0 ∷ 0 ∷ 0 ∷ 0 ∷ 0 ∷ [])
    ≡ read_to (5 ∷ 268435456 ∷ 9 ∷ 268435457 ∷ 13 ∷ 4 ∷ 0 ∷ []) 5
unfolding digit_of next_word put_word stored raised_by copied repeated read_from words_read
star = refl

-- `1 2 3`: a slice of two words takes two
short : words_read (49 ∷ 32 ∷ 50 ∷ 32 ∷ 51 ∷ 32 ∷ []) (0 ∷ 0 ∷ []) ≡ read_to (1 ∷ 2 ∷ []) 2
unfolding digit_of next_word put_word stored raised_by copied repeated read_from words_read
short = refl

-- `1 2 3 *`: a star after fewer than four words
early : words_read (49 ∷ 32 ∷ 50 ∷ 32 ∷ 51 ∷ 32 ∷ 42 ∷ []) (0 ∷ 0 ∷ 0 ∷ []) ≡ read_to (1 ∷ 2 ∷ 3 ∷ []) 3
unfolding digit_of next_word put_word stored raised_by copied repeated read_from words_read
early = refl
