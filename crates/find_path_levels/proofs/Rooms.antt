-- A run without repeats of numbers below n has at most n of them.
use Prim.Native.Nat.{ℕ, zero, suc, ◌+◌, ◌≤◌, ◌<◌}
use mathlib.Core.Path.{◌≡◌, refl, ◌∙◌, ap}
use mathlib.Core.List.{List, [], ◌∷◌, ◌++◌}
use mathlib.Core.Bool.{Bool, true, false, ◌||◌, or-false, or-true}
use native.Mathlib.Omega.{arith}
use lib.Dec.{eqb}
use lib.ListN.{length, length-append}
use borrow.Author.Tests.{ne_eqb, eqb-true, eqb-false}
use Rattle.snapshot.specs.Lists.{any}
use Rattle.find_path_spec.specs.Walk.{has}
use Rattle.find_path_spec.proofs.laws.Walks.{has_snoc}
use Rattle.find_path_levels.specs.Levels.{room}

room_in : (n : ℕ) (r : List ℕ) → has r n ≡ true → room (suc n) r ≡ room n r
unfolding room
room_in n r e = rw (room, e)

room_out : (n : ℕ) (r : List ℕ) → has r n ≡ false → room (suc n) r ≡ suc (room n r)
unfolding room
room_out n r e = rw (room, e)

room_all : (n : ℕ) → room n [] ≡ n
unfolding room has any
room_all zero = refl
room_all (suc n) = ap suc (room_all n)

-- the list with t at its end
module _ (r : List ℕ) (t : ℕ) where
  abbrev r' : List ℕ
  r' = r ++ (t ∷ [])

  other : (i : ℕ) → (i ≡ t → ⊥) → has r' i ≡ has r i
  other i h = has_snoc r t i ∙ ap (λ (b : Bool). has r i || b) (ne_eqb _ _ h) ∙ or-false (has r i)

  -- another number counts alike
  alike : (n : ℕ) → (n ≡ t → ⊥) → (b : Bool) → has r n ≡ b → (x y : ℕ) → room n r' + x ≡ room n r + y → room (suc n) r' + x ≡ room (suc n) r + y
  alike n h true e x y k = rw (room_in n r e, room_in n r' (other n h ∙ e)) k
  alike n h false e x y k = rw (room_out n r e, room_out n r' (other n h ∙ e)) (omega arith)

  room_same : (n : ℕ) → n ≤ t → room n r' + 0 ≡ room n r + 0
  unfolding room
  room_same zero h = refl
  room_same (suc n) h = alike n (λ p. omega arith) (has r n) refl 0 0 (room_same n (omega arith))

  room_less_step : (n : ℕ) → has r t ≡ false → t < suc n → (t < n → room n r' + 1 ≡ room n r + 0) → (b : Bool)
      → eqb n t ≡ b → room (suc n) r' + 1 ≡ room (suc n) r + 0
  room_less_step n new h ih true e =
      let q : n ≡ t = eqb-true n t e in
      let a : has r n ≡ false = ap (has r) q ∙ new in
      let z : has r' n ≡ true = has_snoc r t n ∙ ap (λ (b : Bool). has r n || b) e ∙ or-true (has r n) in
      rw (room_in n r' z, room_out n r a) (omega (arith, room_same n (omega arith)))
  room_less_step n new h ih false e =
      let q : n ≡ t → ⊥ = eqb-false n t e in
      alike n q (has r n) refl 1 0 (ih (omega (arith, q)))

  room_less : (n : ℕ) → has r t ≡ false → t < n → room n r' + 1 ≡ room n r + 0
  room_less zero new h = absurd (omega arith)
  room_less (suc n) new h = room_less_step n new h (λ k. room_less n new k) (eqb n t) refl

-- What a run without repeats of numbers below n keeps.
abbrev pub Fits : ℕ → List ℕ → Type 0
Fits n r = length r + room n r ≡ n

pub fits_snoc : (n : ℕ) (r : List ℕ) (t : ℕ) → t < n → has r t ≡ false → Fits n r → Fits n (r ++ (t ∷ []))
fits_snoc n r t h new f = omega (arith, length-append r (t ∷ []), room_less r t n new h)

-- there is a place for one more
pub fits_place : (n : ℕ) (r : List ℕ) (t : ℕ) → t < n → has r t ≡ false → Fits n r → length r < n
fits_place n r t h new f = omega (arith, room_less r t n new h)

pub fits_none : (n : ℕ) → Fits n []
fits_none n = omega (arith, room_all n)
