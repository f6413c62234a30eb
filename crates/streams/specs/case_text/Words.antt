-- The words that a text in hexadecimal stands for.
use Rattle.std.specs.Prelude.{ℕ, zero, suc, ◌+◌, ◌-◌, ◌*◌, ◌%◌, ◌<◌, true, false, ◌&&◌, ◌||◌, List, [], ◌∷◌, length, ◌==◌, nat_le, nat_lt}
use Rattle.std.specs.Prelude.{slice_index, slice_set, Option, None, Some}
use Rattle.streams.specs.declared.case_text.words.Mark.{Mark}
use Rattle.streams.specs.declared.case_text.words.Mark.TheVariants.{Digit, Star, Gap}

-- the value of a digit, 16 for another byte, 17 for a star
unfoldable pub digit_of : ℕ → ℕ
digit_of b =
    elim (nat_le 48 b && nat_le b 57) [
      | true ↦ b - 48
      | false ↦ elim (nat_le 97 b && nat_le b 102) [ true ↦ b - 87 | false ↦ elim (b == 42) [ true ↦ 17 | false ↦ 16 ] ]
    ]

-- the same of what a byte says
abbrev pub code_of : Mark → ℕ
code_of (Digit d) = d
code_of Star = 17
code_of Gap = 16

-- a digit is one of sixteen
abbrev pub IsDigit : Mark → Type 0
IsDigit (Digit d) = d < 16
IsDigit Star = Unit {0}
IsDigit Gap = Unit {0}

-- a word with one digit more; from the first digit on it has bit 32
unfoldable pub next_word : ℕ → ℕ → ℕ
next_word w d = elim (nat_lt d 16) [ true ↦ 4294967296 + w % 268435456 * 16 + d | false ↦ 0 ]

-- the word that is under way, with bit 32; 0 before its first digit
abbrev pub under_way : Option ℕ → ℕ
under_way None = 0
under_way (Some w) = 4294967296 + w

-- a slice of words, and how many were read
pub record Read : Type 0 where
  pub words : List ℕ
  pub count : ℕ

abbrev pub read_to : List ℕ → ℕ → Read
read_to W n = record { words = W; count = n }

-- a word put at the end, where there is room
unfoldable pub put_word : Read → ℕ → Read
put_word r w =
    elim (nat_lt r.count (length r.words)) [ true ↦ read_to (slice_set r.words r.count w) (r.count + 1) | false ↦ r ]

-- a word that ends with a byte of that value
unfoldable pub stored : Read → ℕ → ℕ → Read
stored r w d = elim (nat_lt d 16 || nat_lt w 4294967296) [ true ↦ r | false ↦ put_word r (w % 4294967296) ]

-- a copy of a word: heads are the words from 2^28 on
unfoldable pub raised_by : ℕ → ℕ → ℕ → ℕ
raised_by w heads arguments = elim (nat_lt w 268435456) [ true ↦ (w + arguments) % 4294967296 | false ↦ (w + heads) % 4294967296 ]

-- n words more, each made of the one k places before
unfoldable pub copied : ℕ → ℕ → ℕ → ℕ → Read → Read
copied zero k heads arguments r = r
copied (suc n) k heads arguments r =
    elim (nat_lt r.count k || nat_le (length r.words) r.count) [
      | true ↦ r
      | false ↦ copied n k heads arguments (put_word r (raised_by (slice_index r.words (r.count - k)) heads arguments))
    ]

-- a star: the last four words say what is copied, and are dropped
unfoldable pub repeated : Read → ℕ → Read
repeated r d =
    elim (nat_lt d 17 || nat_lt r.count 4 || nat_lt (length r.words) r.count) [
      | true ↦ r
      | false ↦
          copied (slice_index r.words (r.count - 3)) (slice_index r.words (r.count - 4)) (slice_index r.words (r.count - 2))
          (slice_index r.words (r.count - 1)) (read_to r.words (r.count - 4))
    ]

-- a text, with the word that is under way
unfoldable pub read_from : List ℕ → ℕ → Read → Read
read_from [] w r = r
read_from (b ∷ text) w r = read_from text (next_word w (digit_of b)) (repeated (stored r w (digit_of b)) (digit_of b))

-- what a slice holds after a text was read into it, and the count
unfoldable pub words_read : List ℕ → List ℕ → Read
words_read text W = read_from text 0 (read_to W 0)
