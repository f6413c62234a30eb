-- The number of digits hidden: a number in decimal is its tenth in decimal and its last digit.
use mathlib.Core.Path.{◌≡◌, ap, sym, ◌∙◌}
use Prim.Native.Nat.{ℕ, zero, suc, ◌+◌, ◌≤◌, ◌<◌, ◌/◌, ◌%◌}
use native.Mathlib.Omega.{arith}
use mathlib.Core.List.{List, [], ◌∷◌, ◌++◌}
use lib.Dec.{ltb}
use borrow.Author.Tests.{ltb-true, ltb-false, lt-ltb, le-ltb}
use Rattle.find_path_spec.specs.Line.{decimal_to, decimal}
use Rattle.accept.proofs.Accepted.{by_test}

short : (d n : ℕ) → n < 10 → n ≤ d → decimal_to d n ≡ (48 + n) ∷ []
unfolding decimal_to
short zero n h k = let z : n % 10 ≡ n = omega arith in rw z
short (suc d) n h k = rw (decimal_to, lt-ltb n 10 h)

pub long : (d n : ℕ) → 10 ≤ n → decimal_to (suc d) n ≡ decimal_to d (n / 10) ++ ((48 + n % 10) ∷ [])
unfolding decimal_to
long d n h = rw (decimal_to, le-ltb n 10 h)

decimal_to_same : (d e n : ℕ) → n ≤ d → n ≤ e → decimal_to d n ≡ decimal_to e n
decimal_to_same zero e n h k = short 0 n (omega arith) h ∙ sym (short e n (omega arith) k)
decimal_to_same (suc d) zero n h k = short (suc d) n (omega arith) h ∙ sym (short 0 n (omega arith) k)
decimal_to_same (suc d) (suc e) n h k =
    by_test (ltb n 10)
    (λ t. let l = ltb-true n 10 t in short (suc d) n l h ∙ sym (short (suc e) n l k))
    (λ t. let l = ltb-false n 10 t in
    long d n l ∙ ap (λ (z : List ℕ). z ++ ((48 + n % 10) ∷ [])) (decimal_to_same d e (n / 10) (omega arith) (omega arith)) ∙ sym (long e n l))

pub decimal_digit : (n : ℕ) → n < 10 → decimal n ≡ (48 + n) ∷ []
unfolding decimal
decimal_digit n h = short n n h (omega arith)

pub decimal_more : (n : ℕ) → 10 ≤ n → decimal n ≡ decimal (n / 10) ++ ((48 + n % 10) ∷ [])
unfolding decimal
decimal_more zero h = absurd (omega arith)
decimal_more (suc n) h =
    long n (suc n) h ∙ ap (λ (z : List ℕ). z ++ ((48 + suc n % 10) ∷ [])) (decimal_to_same n (suc n / 10) (suc n / 10) (omega arith) (omega arith))
