-- Laws of the rows of a state: what an operation leaves as it was.
use Prim.Native.Nat.{ℕ, zero, suc, ◌+◌, ◌-◌, ◌*◌, ◌%◌, ◌<◌, min}
use mathlib.Core.Path.{◌≡◌, refl, sym, ◌∙◌, ap}
use mathlib.Core.Bool.{Bool, true, false, not, false≢true}
use mathlib.Core.List.{List, ◌++◌, append_assoc}
use native.Mathlib.Omega.{arith}
use borrow.Author.Tests.{leb-true, leb-false, eqb-true, eqb-false, ne_eqb}
use lib.Dec.{eqb, leb}
use lib.ListN.{length, get_or, take, drop, replicate, length-append, length-take, length-drop, length-set, get_or-append}
use lib.Seq.{length-take-le, get_or-take, get_or-drop, get_or-append-add, get_or-set_same, get_or-set_other, ext_get_or}
use Rattle.find_path_spec.specs.declared.Question.{Question}
use Rattle.windows.specs.rules.States.{row_of, with_row, waits, asked_by, waiting, place_fault, placed_unless, after_place, served, after_serving}
use Rattle.windows.specs.rules.States.{after_turn}
use Rattle.windows.proofs.state.Laws.{front_length, with_length, fault_room, fault_free, served_bound}

-- other words for a window

module _ (S : List ℕ) (v : ℕ) (r : List ℕ) (l : length S ≡ 65) (h : v < 8) (m : length r ≡ 8) where
  front : length (take (1 + 8 * v) S) ≡ 1 + 8 * v
  front = front_length S v r l h m

  pub with_before : (j : ℕ) → j < 1 + 8 * v → get_or (with_row S v r) j 0 ≡ get_or S j 0
  unfolding with_row
  with_before j k =
      get_or-append (take (1 + 8 * v) S) (r ++ drop (1 + 8 * v + 8) S) 0 j (omega (arith, front, k)) ∙ get_or-take (1 + 8 * v) S j 0 k

  pub with_after : (j : ℕ) → get_or (with_row S v r) (1 + 8 * v + 8 + j) 0 ≡ get_or S (1 + 8 * v + 8 + j) 0
  unfolding with_row
  with_after j =
      let p : List ℕ = take (1 + 8 * v) S ++ r in
      let n : length p ≡ 1 + 8 * v + 8 = length-append (take (1 + 8 * v) S) r ∙ (omega (arith, front, m)) in
      ap (λ x. get_or x (1 + 8 * v + 8 + j) 0) (sym (append_assoc (take (1 + 8 * v) S) r (drop (1 + 8 * v + 8) S)))
      ∙ ap (λ x. get_or (p ++ drop (1 + 8 * v + 8) S) (x + j) 0) (sym n)
      ∙ get_or-append-add p (drop (1 + 8 * v + 8) S) j 0
      ∙ get_or-drop (1 + 8 * v + 8) S j 0

  pub with_in : (i : ℕ) → i < 8 → get_or (with_row S v r) (1 + 8 * v + i) 0 ≡ get_or r i 0
  unfolding with_row
  with_in i k =
      ap (λ x. get_or (with_row S v r) (x + i) 0) (sym front)
      ∙ get_or-append-add (take (1 + 8 * v) S) (r ++ drop (1 + 8 * v + 8) S) i 0
      ∙ get_or-append r (drop (1 + 8 * v + 8) S) 0 i (omega (arith, m, k))

  -- the words of another window
  pub with_other : (w : ℕ) → (w ≡ v → ⊥) → (i : ℕ) → i < 8 → get_or (with_row S v r) (1 + 8 * w + i) 0 ≡ get_or S (1 + 8 * w + i) 0
  with_other w n i k = side (leb v w) refl
    where
      side : (b : Bool) → leb v w ≡ b → get_or (with_row S v r) (1 + 8 * w + i) 0 ≡ get_or S (1 + 8 * w + i) 0
      side true t =
          let g : v < w = omega (arith, leb-true v w t, n) in
          let e : 1 + 8 * v + 8 + (8 * w + i - 8 * v - 8) ≡ 1 + 8 * w + i = omega (arith, g) in
          sym (ap (λ x. get_or (with_row S v r) x 0) e) ∙ with_after (8 * w + i - 8 * v - 8) ∙ ap (λ x. get_or S x 0) e
      side false t = with_before (1 + 8 * w + i) (omega (arith, leb-false v w t, k))

-- what a row tells

pub row_word : (S : List ℕ) (w i : ℕ) → i < 8 → get_or (row_of S w) i 0 ≡ get_or S (1 + 8 * w + i) 0
unfolding row_of
row_word S w i k = get_or-take 8 (drop (1 + 8 * w) S) i 0 k ∙ get_or-drop (1 + 8 * w) S i 0

pub row_same : (S T : List ℕ) (w : ℕ) → length S ≡ 65 → length T ≡ 65
    → ((i : ℕ) → i < 8 → get_or T (1 + 8 * w + i) 0 ≡ get_or S (1 + 8 * w + i) 0) → row_of T w ≡ row_of S w
unfolding row_of
row_same S T w l m f =
    let n : length (row_of T w) ≡ length (row_of S w) =
    length-take 8 (drop (1 + 8 * w) T)
    ∙ ap (min 8) (length-drop (1 + 8 * w) T ∙ ap (λ x. x - (1 + 8 * w)) (m ∙ sym l) ∙ sym (length-drop (1 + 8 * w) S))
    ∙ sym (length-take 8 (drop (1 + 8 * w) S)) in
    ext_get_or 0 (row_of T w) (row_of S w) n (λ i k.
    let s : i < 8 = omega (arith, k, length-take 8 (drop (1 + 8 * w) T)) in
    row_word T w i s ∙ f i s ∙ sym (row_word S w i s))

pub row_waits : (S : List ℕ) (w : ℕ) → waits S w ≡ not (eqb (get_or (row_of S w) 0 0) 0)
unfolding waits
row_waits S w =
    let e : 1 + 8 * w ≡ 1 + 8 * w + 0 = omega arith in
    ap (λ x. not (eqb x 0)) (ap (λ x. get_or S x 0) e ∙ sym (row_word S w 0 (omega arith)))

-- a row as a question
abbrev pub asking : List ℕ → Question
asking r =
    record {
      query = record {
        ns = get_or r 1 0;
        definition = record { 0 = get_or r 2 0 };
        from = record { 0 = get_or r 3 0 };
        prefix = get_or r
            4 0;
        options = get_or r 5 0;
        limit = get_or r 7 0;
      };
      fuel = get_or r 6 0;
    }

pub row_asked : (S : List ℕ) (w : ℕ) → asked_by S w ≡ asking (row_of S w)
unfolding asked_by
row_asked S w =
    λ i. record {
      query =
          record {
            ns = word 0 (omega arith) i;
            definition = record { 0 = word 1 (omega arith) i };
            from = record { 0 = word 2 (omega arith) i };
            prefix = word 3 (omega arith) i;
            options = word 4 (omega arith) i;
            limit = word 6 (omega arith) i;
          };
      fuel = word 5 (omega arith) i;
    }
  where
    word : (j : ℕ) → j < 7 → get_or (drop (1 + 8 * w + 1) S) j 0 ≡ get_or (row_of S w) (1 + j) 0
    word j k =
        let e : 1 + 8 * w + 1 + j ≡ 1 + 8 * w + (1 + j) = omega arith in
        get_or-drop (1 + 8 * w + 1) S j 0 ∙ ap (λ x. get_or S x 0) e ∙ sym (row_word S w (1 + j) (omega (arith, k)))

-- a question that is placed

pub placed_row : (S : List ℕ) (w : ℕ) (q : Question) → length S ≡ 65 → w < 8 → row_of (with_row S w (waiting q)) w ≡ waiting q
unfolding row_of waiting
placed_row S w q l h =
    let T : List ℕ = with_row S w (waiting q) in
    let n : length (row_of T w) ≡ 8 =
    length-take-le 8 (drop (1 + 8 * w) T) (omega (arith, length-drop (1 + 8 * w) T, with_length S w (waiting q) l h refl)) in
    ext_get_or 0 (row_of T w) (waiting q) n (λ i k. row_word T w i (omega (arith, k, n)) ∙ with_in S w (waiting q) l h refl i (omega (arith, k, n)))

pub place_by : (P : List ℕ → Type 0) (S : List ℕ) (v : ℕ) (q : Question) → P S → (place_fault S v ≡ 0 → P (with_row S v (waiting q)))
    → P (after_place S v q)
unfolding after_place placed_unless
place_by P S v q a f = at (place_fault S v) refl
  where
    at : (n : ℕ) → place_fault S v ≡ n → P (placed_unless S v q n)
    at zero e = f e
    at (suc n) e = a

pub place_puts : (S : List ℕ) (v : ℕ) (q : Question) → place_fault S v ≡ 0 → after_place S v q ≡ with_row S v (waiting q)
unfolding after_place placed_unless
place_puts S v q e = ap (placed_unless S v q) e

pub turn_serves : (S : List ℕ) → (served S ≡ 8 → ⊥) → after_turn S ≡ after_serving S (served S)
unfolding after_turn
turn_serves S n = rw (after_turn, ne_eqb (served S) 8 n)

pub turn_by : (P : List ℕ → Type 0) (S : List ℕ) → (served S ≡ 8 → P S) → ((served S ≡ 8 → ⊥) → P (after_serving S (served S))) → P (after_turn S)
unfolding after_turn
turn_by P S a f = at (eqb (served S) 8) refl
  where
    at : (b : Bool) → eqb (served S) 8 ≡ b → P (elim b [ true ↦ S | false ↦ after_serving S (served S) ])
    at true e = a (eqb-true (served S) 8 e)
    at false e = f (eqb-false (served S) 8 e)

-- What an operation keeps: the count of words, and the row of a window that waits; w is that window.

module _ (S : List ℕ) (l : length S ≡ 65) where
  pub place_length : (v : ℕ) (q : Question) → length (after_place S v q) ≡ 65
  unfolding waiting
  place_length v q = place_by (λ T. length T ≡ 65) S v q l (λ e. with_length S v (waiting q) l (fault_room S v e) refl)

  pub serving_length : (v : ℕ) → v < 8 → length (after_serving S v) ≡ 65
  unfolding after_serving
  serving_length v h = length-set (with_row S v (replicate 8 0)) 0 ((v + 1) % 8) ∙ with_length S v (replicate 8 0) l h refl

  pub turn_length : length (after_turn S) ≡ 65
  turn_length = turn_by (λ T. length T ≡ 65) S (λ e. l) (λ n. serving_length (served S) (served_bound S (served S) refl n))

  pub place_next : (v : ℕ) (q : Question) → get_or (after_place S v q) 0 0 ≡ get_or S 0 0
  unfolding waiting
  place_next v q =
      place_by (λ T. get_or T 0 0 ≡ get_or S 0 0) S v q refl (λ e. with_before S v (waiting q) l (fault_room S v e) refl 0 (omega arith))

  pub serving_next : (v : ℕ) → v < 8 → get_or (after_serving S v) 0 0 ≡ (v + 1) % 8
  unfolding after_serving
  serving_next v h =
      get_or-set_same (with_row S v (replicate 8 0)) 0 ((v + 1) % 8) 0 (omega (arith, with_length S v (replicate 8 0) l h refl))

  pub place_row : (v : ℕ) (q : Question) (w : ℕ) → waits S w ≡ true → row_of (after_place S v q) w ≡ row_of S w
  unfolding waiting
  place_row v q w t =
      place_by (λ T. row_of T w ≡ row_of S w) S v q refl (λ e.
      let h : v < 8 = fault_room S v e in
      let n : w ≡ v → ⊥ = λ x. false≢true (sym (fault_free S v e) ∙ ap (waits S) (sym x) ∙ t) in
      row_same S (with_row S v (waiting q)) w l (with_length S v (waiting q) l h refl) (with_other S v (waiting q) l h refl w n))

  pub serving_row : (v : ℕ) → v < 8 → (w : ℕ) → (w ≡ v → ⊥) → row_of (after_serving S v) w ≡ row_of S w
  unfolding after_serving
  serving_row v h w n =
      row_same S (after_serving S v) w l (serving_length v h) (λ i k.
      get_or-set_other (with_row S v (replicate 8 0)) 0 (1 + 8 * w + i) ((v + 1) % 8) 0 (λ x. omega arith)
      ∙ with_other S v (replicate 8 0) l h refl w n i k)
