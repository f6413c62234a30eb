-- The numbers of a list lie below a bound.
use Rattle.std.specs.Prelude.{ℕ, ◌<◌, List, get_or}

abbrev pub Within : ℕ → List ℕ → Type 0
Within b t = (i : ℕ) → get_or t i 0 < b
