-- The words that a state of eight windows stands for: those of `States`.
use Rattle.std.specs.Prelude.{ℕ, ◌≡◌, List, [], ◌∷◌, ◌++◌, Option, None, Some, Result, Ok, Err}
use Rattle.snapshot.specs.declared.refusal.Refusal.{Refusal}
use Rattle.windows.specs.declared.state.window.Window.{Window}
use Rattle.windows.specs.declared.state.rows.Row.{Row}
use Rattle.windows.specs.declared.state.rows.Windows.{Windows}

-- the number of a window, 8 for none
abbrev pub number_of : Option Window → ℕ
number_of None = 8
number_of (Some w) = w.number

-- the window of the number n, unless it is refused
abbrev pub OfNumber : ℕ → Result Window Refusal → Type 0
OfNumber n (Ok w) = w.number ≡ n
OfNumber n (Err r) = Unit {0}

-- a window with no question
unfoldable pub empty_row : Row
empty_row = record { waits = 0; ns = 0; definition = 0; from = 0; prefix = 0; options = 0; fuel = 0; limit = 0 }

-- whether the question waits, and the question
unfoldable pub row_words : Row → List ℕ
row_words r = r.waits ∷ r.ns ∷ r.definition ∷ r.from ∷ r.prefix ∷ r.options ∷ r.fuel ∷ r.limit ∷ []

-- the rows, one after the other
unfoldable pub rows_words : List Row → List ℕ
rows_words [] = []
rows_words (r ∷ rs) = row_words r ++ rows_words rs

unfoldable pub words_of : Windows → List ℕ
words_of s = s.next ∷ rows_words s.rows
