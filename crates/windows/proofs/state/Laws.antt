-- Laws of the state of eight windows, as the code goes over it.
use Prim.Native.Nat.{ℕ, zero, suc, ◌+◌, ◌-◌, ◌*◌, ◌%◌, ◌≤◌, ◌<◌}
use mathlib.Core.Path.{◌≡◌, refl, sym, ◌∙◌, ap, subst}
use mathlib.Core.Bool.{Bool, true, false}
use mathlib.Core.List.{List, ◌++◌, append_assoc}
use native.Mathlib.Omega.{arith}
use native.Mathlib.Numerals.{add-one}
use borrow.Author.Tests.{lt-ltb, le-ltb, ltb-true, ltb-false}
use lib.Dec.{ltb}
use lib.ListN.{length, get_or, set, take, drop, length-append, length-drop}
use lib.Seq.{length-take-le, take_all, paste, paste-suc}
use Rattle.snapshot.specs.Refusals.{window_refusal, waits_refusal}
use Rattle.windows.specs.rules.States.{waits, with_row, first_from, served, place_fault}

-- the first window that waits

pub served_start : (S : List ℕ) → served S ≡ first_from S (get_or S 0 0 % 8) 8
unfolding served
served_start S = refl

module _ (S : List ℕ) (w : ℕ) (b : Bool) (e : b ≡ waits S w) where
  pub first_here : (n : ℕ) → 0 < n → b ≡ true → first_from S w n ≡ w
  unfolding first_from
  first_here zero h t = omega arith
  first_here (suc n) h t = rw (first_from, sym e, t)

  pub first_next : (n : ℕ) → 0 < n → b ≡ false → first_from S w n ≡ first_from S ((w + 1) % 8) (n - 1)
  unfolding first_from
  first_next zero h t = omega arith
  first_next (suc n) h t =
      let k : n ≡ suc n - 1 = omega arith in
      (rw (first_from, sym e, t)) ∙ ap (first_from S ((w + 1) % 8)) k

pub first_none : (S : List ℕ) (w n : ℕ) → n ≤ 0 → first_from S w n ≡ 8
unfolding first_from
first_none S w zero h = refl
first_none S w (suc n) h = omega arith

-- the row of a window written

pub row_next : (S T row : List ℕ) (at i : ℕ) → T ≡ paste S at row i → at + i < length S → i < length row
    → set T (at + i) (get_or row i 0) ≡ paste S at row (i + 1)
row_next S T row at i e h k =
    ap (λ x. set x (at + i) (get_or row i 0)) e ∙ paste-suc S at row i 0 h k ∙ ap (paste S at row) (sym (add-one i))

pub row_done : (S T row : List ℕ) (w i : ℕ) → T ≡ paste S (1 + 8 * w) row i → i ≤ 8 → 8 ≤ i → length row ≡ 8 → T ≡ with_row S w row
unfolding with_row
row_done S T row w i e h k l =
    let q : i ≡ 8 = omega arith in
    e
    ∙ ap (paste S (1 + 8 * w) row) q
    ∙ append_assoc (take (1 + 8 * w) S) (take 8 row) (drop (1 + 8 * w + 8) S)
    ∙ ap (λ x. take (1 + 8 * w) S ++ (x ++ drop (1 + 8 * w + 8) S)) (take_all 8 row (omega (arith, l)))

-- other words for a window

module _ (S : List ℕ) (v : ℕ) (r : List ℕ) (l : length S ≡ 65) (h : v < 8) (m : length r ≡ 8) where
  pub front_length : length (take (1 + 8 * v) S) ≡ 1 + 8 * v
  front_length = length-take-le (1 + 8 * v) S (omega (arith, l))

  pub with_length : length (with_row S v r) ≡ 65
  unfolding with_row
  with_length =
      let a : length (with_row S v r) ≡ length (take (1 + 8 * v) S) + length (r ++ drop (1 + 8 * v + 8) S) =
      length-append (take (1 + 8 * v) S) (r ++ drop (1 + 8 * v + 8) S) in
      let b : length (r ++ drop (1 + 8 * v + 8) S) ≡ length r + length (drop (1 + 8 * v + 8) S) = length-append r (drop (1 + 8 * v + 8) S) in
      omega (arith, a, b, front_length, m, l, h, length-drop (1 + 8 * v + 8) S)

-- a question placed

pub fault_window : (S : List ℕ) (w : ℕ) → 8 ≤ w → window_refusal ≡ place_fault S w
unfolding place_fault
fault_window S w h = sym (rw (place_fault, lt-ltb 7 w (omega arith)))

module _ (S : List ℕ) (w : ℕ) (h : w < 8) (b : Bool) (e : b ≡ waits S w) where
  pub fault_waits : b ≡ true → waits_refusal ≡ place_fault S w
  unfolding place_fault
  fault_waits t = sym (rw (place_fault, le-ltb 7 w (omega arith), sym e, t))

  pub fault_none : b ≡ false → 0 ≡ place_fault S w
  unfolding place_fault
  fault_none t = sym (rw (place_fault, le-ltb 7 w (omega arith), sym e, t))

pub fault_room : (S : List ℕ) (w : ℕ) → place_fault S w ≡ 0 → w < 8
fault_room S w e = room (ltb 7 w) refl
  where
    room : (b : Bool) → ltb 7 w ≡ b → w < 8
    room true t = omega (arith, fault_window S w (omega (arith, ltb-true 7 w t)), e)
    room false t = omega (arith, ltb-false 7 w t)

pub fault_free : (S : List ℕ) (w : ℕ) → place_fault S w ≡ 0 → waits S w ≡ false
fault_free S w e = free (waits S w) refl
  where
    free : (b : Bool) → waits S w ≡ b → b ≡ false
    free true t = absurd (omega (arith, fault_waits S w (fault_room S w e) true (sym t) refl, e))
    free false t = refl

-- a question served

first_bound : (S : List ℕ) (w n : ℕ) → w < 8 → first_from S w n ≤ 8
unfolding first_from
first_bound S w zero h = omega arith
first_bound S w (suc n) h = bound (waits S w) (first_bound S ((w + 1) % 8) n (omega arith))
  where
    bound : (b : Bool) → first_from S ((w + 1) % 8) n ≤ 8 → elim b [ true ↦ w | false ↦ first_from S ((w + 1) % 8) n ] ≤ 8
    bound true k = omega arith
    bound false k = k

pub served_bound : (S : List ℕ) (w : ℕ) → w ≡ served S → (w ≡ 8 → ⊥) → w < 8
served_bound S w e h =
    let b : served S ≤ 8 = subst (λ (x : ℕ). x ≤ 8) (sym (served_start S)) (first_bound S (get_or S 0 0 % 8) 8 (omega arith)) in
    omega (arith, e, b, h)
