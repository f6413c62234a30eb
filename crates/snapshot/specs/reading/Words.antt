-- A word is a kind and a payload; a record is a head and its arguments.
use Rattle.std.specs.Prelude.{ℕ, ◌+◌, ◌/◌, ◌%◌, List, get_or, take, drop}

-- bits 31 to 28
abbrev pub kind_of : ℕ → ℕ
kind_of w = w / 268435456

-- bits 27 to 0
abbrev pub pay_of : ℕ → ℕ
pay_of w = w % 268435456

-- the words that hold a text of so many bytes, three bytes a word
abbrev pub words_of : ℕ → ℕ
words_of b = (b + 2) / 3

-- the text of the name with its head at a place: the words after the head
abbrev pub text_at : List ℕ → ℕ → List ℕ
text_at W h = take (words_of (pay_of (get_or W h 0))) (drop (h + 1) W)
