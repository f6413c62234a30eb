-- Bytes as words and numbers as digits, computed: an edit of a definition is told by these rows first.
use mathlib.Core.Path.{◌≡◌, refl}
use mathlib.Core.List.{[], ◌∷◌, map}
use Rattle.snapshot.specs.Lists.{rows}
use Rattle.printing.specs.Input.{words_in}
use Rattle.printing.specs.Output.{bytes_of, decimal_to, decimal}

-- the lowest byte first; past the end there are zeros
pub words : words_in (0x61 ∷ 0x62 ∷ 0x63 ∷ 0x10 ∷ 0x01 ∷ []) 2 ≡ 0x10636261 ∷ 1 ∷ []
unfolding rows
words = refl

pub digits : map decimal (0 ∷ 7 ∷ 10 ∷ 16384 ∷ []) ≡ bytes_of "0" ∷ bytes_of "7" ∷ bytes_of "10" ∷ bytes_of "16384" ∷ []
unfolding decimal_to
digits = refl
