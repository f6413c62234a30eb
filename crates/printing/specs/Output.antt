-- Text put into bytes, one piece after the other.
use Rattle.std.specs.Prelude.{ℕ, zero, suc, ◌+◌, ◌/◌, ◌%◌, ◌≡◌, List, [], ◌∷◌, ◌++◌, true, false, ltb, length, take, drop}
use Prim.Native.Char.{code}
use Prim.Native.String as S

-- the bytes of a text
abbrev pub bytes_of : S.String → List ℕ
bytes_of S.[] = []
bytes_of (S.◌∷◌ c s) = code c ∷ bytes_of s

-- a text stands at a place of the bytes, after what stood before it; the next piece goes to r, and what stood from there on stays
pub record Put (old : List ℕ) (at : ℕ) (text new : List ℕ) (r : ℕ) : Type 0 where
  pub next : r ≡ at + length text
  pub same : take r new ≡ take at old ++ text
  pub rest : drop r new ≡ drop r old

-- the last digits of a number, so many at most
unfoldable pub decimal_to : ℕ → ℕ → List ℕ
decimal_to zero n = []
decimal_to (suc most) n =
    elim (ltb n 10) [ true ↦ (48 + n) ∷ [] | false ↦ decimal_to most (n / 10) ++ ((48 + n % 10) ∷ []) ]

-- the digits of a number below 10 ^ 20
abbrev pub decimal : ℕ → List ℕ
decimal n = decimal_to 20 n
