-- Words stored from a place on, or only counted.
use Prim.Native.Nat.{ℕ, suc, ◌+◌}
use mathlib.Core.Path.{◌≡◌, refl, sym, ap, ◌∙◌}
use mathlib.Core.List.{List, [], ◌∷◌, ◌++◌}
use mathlib.Core.Bool.{Bool, true, false}
use native.Mathlib.Omega.{arith}
use native.Mathlib.Nat.{add-zero}
use lib.ListN.{length, set}
use lib.Seq.{sets, length-sets}
use Rattle.answer.specs.counts.Targets.{written}

pub sets_append : (T xs ys : List ℕ) (i : ℕ) → sets T i (xs ++ ys) ≡ sets (sets T i xs) (i + length xs) ys
sets_append T [] ys i = ap (λ k. sets T k ys) (sym (add-zero i))
sets_append T (x ∷ xs) ys i =
    let e : suc i + length xs ≡ i + suc (length xs) = omega arith in
    sets_append (set T i x) xs ys (suc i) ∙ ap (λ k. sets (sets (set T i x) (suc i) xs) k ys) e

pub written_append : (write : Bool) (at : ℕ) (xs ys T : List ℕ) → written write (at + length xs) ys (written write at xs T)
    ≡ written write at (xs ++ ys) T
unfolding written
written_append true at xs ys T = sym (sets_append T xs ys at)
written_append false at xs ys T = refl

pub written_length : (write : Bool) (at : ℕ) (ws T : List ℕ) → length (written write at ws T) ≡ length T
unfolding written
written_length true at ws T = length-sets T at ws
written_length false at ws T = refl

pub written_none : (write : Bool) (at : ℕ) (T : List ℕ) → written write at [] T ≡ T
unfolding written
written_none true at T = refl
written_none false at T = refl
