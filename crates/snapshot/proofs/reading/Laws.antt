-- A law of words.
use Prim.Native.Nat.{ℕ, ◌≤◌}
use mathlib.Core.Path.{◌≡◌, sym}
use mathlib.Core.List.{List}
use lib.ListN.{length, get_or, get_or-eq_default}

-- a word past the end
pub past : (W : List ℕ) (i : ℕ) → length W ≤ i → 0 ≡ get_or W i 0
past W i h = sym (get_or-eq_default W 0 h)
