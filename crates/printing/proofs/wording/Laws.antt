-- Laws of a text that a number chooses.
use Prim.Native.Nat.{ℕ, ◌≤◌}
use mathlib.Core.Path.{◌≡◌, ◌∙◌, ap}
use mathlib.Core.List.{List}
use mathlib.Core.Bool.{true, false}
use borrow.Author.Tests.{eq-eqb, ne_eqb}
use lib.Dec.{eqb, lit≤}
use lib.ListN.{length}
use Rattle.printing.specs.wording.Text.{choose, meaning}

module _ (n m : ℕ) (text other : List ℕ) where
  pub choose_same : n ≡ m → text ≡ choose n m text other
  unfolding choose
  choose_same e = rw (choose, eq-eqb n m e)

  pub choose_other : (n ≡ m → ⊥) → other ≡ choose n m text other
  unfolding choose
  choose_other e = rw (choose, ne_eqb n m e)

  short : length text ≤ 100 → length other ≤ 100 → length (choose n m text other) ≤ 100
  unfolding choose
  short p q =
      elim (eqb n m) as (λ b. length {A = ℕ} (elim b [ true ↦ text | false ↦ other ]) ≤ 100) [ true ↦ p | false ↦ q ]

-- the other, told otherwise
pub choose_on : (n m : ℕ) (text : List ℕ) {r a b : List ℕ} → r ≡ choose n m text a → a ≡ b → r ≡ choose n m text b
choose_on n m text e f = e ∙ ap (choose n m text) f

pub meaning_short : (n : ℕ) → length (meaning n) ≤ 100
unfolding meaning
meaning_short n =
    short n _ _ _ (lit≤ tt) (short n _ _ _ (lit≤ tt) (short n _ _ _ (lit≤ tt) (short n _ _ _ (lit≤ tt)
    (short n _ _ _ (lit≤ tt) (short n _ _ _ (lit≤ tt) (short n _ _ _ (lit≤ tt)
    (short n _ _ _ (lit≤ tt) (short n _ _ _ (lit≤ tt) (short n _ _ _ (lit≤ tt) (lit≤ tt))))))))))
