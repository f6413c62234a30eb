-- Laws of the loops that move words, and of the words that they leave.
use Prim.Native.Nat.{ℕ, zero, suc, ◌+◌, ◌-◌, ◌≤◌, ◌<◌}
use mathlib.Core.Path.{◌≡◌, sym, ◌∙◌, ap}
use mathlib.Core.List.{List, [], ◌∷◌, ◌++◌, append_assoc}
use native.Mathlib.Omega.{arith}
use native.Mathlib.Decide.{dec_le}
use native.Mathlib.Numerals.{add-one}
use lib.ListN.{length, get_or, set, take, drop, replicate, length-append, length-take, length-replicate, get_or-replicate, take-append-drop}
use lib.ListN.{drop_of_length-le, get_or-append}
use lib.Seq.{append_snoc, take-suc, drop-cons, set_at, take_at, drop_at, take_all, take-take, get_or-take, get_or-drop, get_or-append-add, length-take-le}
use lib.Seq.{take-append-le, ext_get_or, paste, paste-suc}
use Rattle.snapshot.specs.Sizes.{scope_size}
use Rattle.check_records.specs.chains.Chains.{Cleared}
use Rattle.edit_rules.specs.Entries.{inserted, cut}
use Rattle.edit_rules.proofs.scope_edits.Lists.{inserted_length, cut_length, cut_after}

-- a list whose word after p is stored
store_seam : (p R : List ℕ) (y v n : ℕ) → length p ≡ n → set (p ++ (y ∷ []) ++ R) n v ≡ p ++ (v ∷ R)
store_seam p R y v n e = ap (λ l. set l n v) (append_snoc p y R) ∙ set_at p y R v n e

-- upwards

pub up_start : (W : List ℕ) (count : ℕ) → count ≤ length W
    → W ≡ take (count + scope_size) W ++ (drop count (take count W) ++ drop (count + scope_size) W)
up_start W count h =
    let e : drop count (take count W) ≡ [] = drop_of_length-le (take count W) {i = count} (simp length-take (omega arith)) in
    sym (ap (λ l. take (count + scope_size) W ++ (l ++ drop (count + scope_size) W)) e ∙ take-append-drop (count + scope_size) W)

pub up_next : (W l Z : List ℕ) (count i j : ℕ) → j + 1 ≡ i → i ≤ count → count + scope_size ≤ length W
    → l ≡ take (i + scope_size) W ++ (drop i (take count W) ++ Z)
    → set l (j + scope_size) (get_or l j 0) ≡ take (j + scope_size) W ++ (drop j (take count W) ++ Z)
up_next W l Z count i j e h g k =
    let S = take count W in
    let R = drop i S ++ Z in
    let long : length (take (i + scope_size) W) ≡ i + scope_size = length-take-le (i + scope_size) W (omega arith) in
    let v : get_or l j 0 ≡ get_or W j 0 =
    ap (λ x. get_or x j 0) k ∙ get_or-append (take (i + scope_size) W) R 0 j (omega arith) ∙ get_or-take (i + scope_size) W j 0 (omega arith) in
    let n : i + scope_size ≡ suc (j + scope_size) = omega arith in
    let a : l ≡ take (j + scope_size) W ++ (get_or W (j + scope_size) 0 ∷ []) ++ R = k ∙ ap (λ m. take m W ++ R) n
    ∙ ap (λ x. x ++ R) (take-suc W (j + scope_size) 0 (omega arith)) in
    let b : drop j S ≡ get_or W j 0 ∷ drop i S =
    drop-cons S j 0 (simp length-take (omega arith)) ∙ ap (λ x. x ∷ drop (suc j) S) (get_or-take count W j 0 (omega arith))
    ∙ (let q : suc j ≡ i = omega arith in ap (λ m. get_or W j 0 ∷ drop m S) q) in
    ap (λ x. set l (j + scope_size) x) v ∙ ap (λ x. set x (j + scope_size) (get_or W j 0)) a
    ∙ store_seam (take (j + scope_size) W) R (get_or W (j + scope_size) 0) (get_or W j 0) (j + scope_size) (length-take-le (j + scope_size) W (omega arith))
    ∙ ap (λ x. take (j + scope_size) W ++ (x ++ Z)) (sym b)

-- downwards

module _ (W : List ℕ) (at count : ℕ) (h : at + scope_size ≤ count) (g : count ≤ length W) where
  fits : at + scope_size ≤ length (take count W)
  fits = let l = length-take-le count W g in omega arith

  down_long : length (cut at scope_size (take count W)) + scope_size ≡ count
  down_long = cut_length (take count W) at scope_size fits ∙ length-take-le count W g

  pub down_start : W ≡ take at (cut at scope_size (take count W)) ++ drop at W
  down_start =
      let l : length (take at (take count W)) ≡ at = length-take-le at (take count W) (let f = fits in omega arith) in
      sym (ap (λ x. x ++ drop at W) (take_at (take at (take count W)) (drop (at + scope_size) (take count W)) at l
      ∙ take-take at count W (omega arith)) ∙ take-append-drop at W)

  pub down_next : (l : List ℕ) (i : ℕ) → at ≤ i → i + scope_size < count → l ≡ take i (cut at scope_size (take count W)) ++ drop i W
      → set l i (get_or l (i + scope_size) 0) ≡ take (i + 1) (cut at scope_size (take count W)) ++ drop (i + 1) W
  down_next l i a b e =
      let C = cut at scope_size (take count W) in
      let d = down_long in
      let n : length (take i C) ≡ i = length-take-le i C (omega arith) in
      let v : get_or l (i + scope_size) 0 ≡ get_or W (i + scope_size) 0 =
      ap (λ x. get_or x (i + scope_size) 0) e ∙ ap (λ m. get_or (take i C ++ drop i W) (m + scope_size) 0) (sym n)
      ∙ get_or-append-add (take i C) (drop i W) scope_size 0 ∙ get_or-drop i W scope_size 0 in
      let to : at + (i - at) ≡ i = omega arith in
      let from : at + scope_size + (i - at) ≡ i + scope_size = omega arith in
      let w : get_or C i 0 ≡ get_or W (i + scope_size) 0 =
      ap (λ m. get_or C m 0) (sym to) ∙ cut_after (take count W) at scope_size fits (i - at) ∙ ap (λ m. get_or (take count W) m 0) from
      ∙ get_or-take count W (i + scope_size) 0 b in
      let s : take (i + 1) C ≡ take i C ++ (get_or W (i + scope_size) 0 ∷ []) = rw (add-one i) (take-suc C i 0 (omega arith)
      ∙ ap (λ x. take i C ++ (x ∷ [])) w) in
      let t : drop i W ≡ get_or W i 0 ∷ drop (i + 1) W = rw (add-one i) (drop-cons W i 0 (omega arith)) in
      ap (λ x. set l i x) v ∙ ap (λ x. set x i (get_or W (i + scope_size) 0)) (e ∙ ap (λ x. take i C ++ x) t)
      ∙ set_at (take i C) (get_or W i 0) (drop (i + 1) W) (get_or W (i + scope_size) 0) i n
      ∙ sym (append_snoc (take i C) (get_or W (i + scope_size) 0) (drop (i + 1) W))
      ∙ ap (λ x. x ++ drop (i + 1) W) (sym s)

  pub down_end : (l : List ℕ) (i : ℕ) → i + scope_size ≤ count → count ≤ i + scope_size → l ≡ take i (cut at scope_size (take count W)) ++ drop i W
      → l ≡ cut at scope_size (take count W) ++ drop (count - scope_size) W
  down_end l i a b e =
      let d = down_long in
      let q : i ≡ count - scope_size = omega arith in
      e ∙ ap (λ x. x ++ drop i W) (take_all i (cut at scope_size (take count W)) (omega arith))
      ∙ ap (λ m. cut at scope_size (take count W) ++ drop m W) q

-- a record written

pub put_next : (W l R : List ℕ) (at i : ℕ) → at + scope_size ≤ length W → length R ≡ scope_size → i < scope_size → l ≡ paste W at R i
    → set l (at + i) (get_or R i 0) ≡ paste W at R (i + 1)
put_next W l R at i h r k e =
    ap (λ x. set x (at + i) (get_or R i 0)) e ∙ paste-suc W at R i 0 (omega arith) (omega arith) ∙ ap (paste W at R) (sym (add-one i))

pub put_end : (W l R : List ℕ) (at i : ℕ) → length R ≡ scope_size → i ≤ scope_size → scope_size ≤ i → l ≡ paste W at R i
    → l ≡ take at W ++ (R ++ drop (at + scope_size) W)
put_end W l R at i r h k e =
    let q : i ≡ scope_size = omega arith in
    e ∙ ap (paste W at R) q ∙ ap (λ x. take at W ++ x ++ drop (at + scope_size) W) (take_all scope_size R (omega arith))
    ∙ append_assoc (take at W) R (drop (at + scope_size) W)

-- the words past a place cleared
pub cleared_tail : (l m : List ℕ) (k : ℕ) → length m ≡ length l → k ≤ length l → Cleared l m k (length l) → m ≡ take k l ++ replicate (length l - k) 0
cleared_tail l m k e h c =
    let n : length (take k l) ≡ k = length-take-le k l h in
    ext_get_or 0 m (take k l ++ replicate (length l - k) 0) (e ∙ simp (length-append, length-take, length-replicate) (omega arith))
    (λ i p. elim (dec_le k i) [
      | yes u ↦
          c.zero i u (omega arith)
          ∙ sym ((let q : i ≡ k + (i - k) = omega arith in ap (λ j. get_or (take k l ++ replicate (length l - k) 0) j 0) q)
          ∙ ap (λ j. get_or (take k l ++ replicate (length l - k) 0) (j + (i - k)) 0) (sym n)
          ∙ get_or-append-add (take k l) (replicate (length l - k) 0) (i - k) 0 ∙ get_or-replicate (length l - k) (i - k) 0 0 (omega arith))
      | no u ↦
          c.before i (omega arith)
          ∙ sym (get_or-append (take k l) (replicate (length l - k) 0) 0 i (omega arith) ∙ get_or-take k l i 0 (omega arith))
    ])

-- what is left of the moves

pub insert_done : (W R W₁ W₂ W₃ : List ℕ) (at count : ℕ) → at ≤ count → count + scope_size ≤ length W → length R ≡ scope_size
    → W₁ ≡ take (at + scope_size) W ++ (drop at (take count W) ++ drop (count + scope_size) W) → W₂ ≡ take at W₁ ++ (R ++ drop (at + scope_size) W₁)
    → length W₂ ≡ length W → length W₃ ≡ length W₂ → Cleared W₂ W₃ (count + scope_size) (length W₂)
    → W₃ ≡ inserted at R (take count W) ++ replicate (length W - (count + scope_size)) 0
insert_done W R W₁ W₂ W₃ at count h g r e f m n c =
    let S = take count W in
    let Z = drop (count + scope_size) W in
    let ls : length S ≡ count = length-take-le count W (omega arith) in
    let l7 : length (take (at + scope_size) W) ≡ at + scope_size = length-take-le (at + scope_size) W (omega arith) in
    let a : take at W₁ ≡ take at S =
    ap (take at) e ∙ take-append-le at (take (at + scope_size) W) (drop at S ++ Z) (omega arith) ∙ take-take at (at + scope_size) W (omega arith)
    ∙ sym (take-take at count W h) in
    let b : drop (at + scope_size) W₁ ≡ drop at S ++ Z = ap (drop (at + scope_size)) e ∙ drop_at (take (at + scope_size) W)
    (drop at S ++ Z) (at + scope_size) l7 in
    let d : W₂ ≡ inserted at R S ++ Z =
    f ∙ ap (λ x. x ++ (R ++ drop (at + scope_size) W₁)) a ∙ ap (λ x. take at S ++ (R ++ x)) b
    ∙ ap (λ x. take at S ++ x) (sym (append_assoc R (drop at S) Z)) ∙ sym (append_assoc (take at S) (R ++ drop at S) Z) in
    let long : length (inserted at R S) ≡ count + scope_size = inserted_length S R at (omega arith) ∙ rw (ls, r) in
    cleared_tail W₂ W₃ (count + scope_size) n (omega arith) c
    ∙ ap (λ x. x ++ replicate (length W₂ - (count + scope_size)) 0) (ap (take (count + scope_size)) d
    ∙ take_at (inserted at R S) Z (count + scope_size) long)
    ∙ ap (λ k. inserted at R S ++ replicate (k - (count + scope_size)) 0) m

pub remove_done : (W W₁ W₂ : List ℕ) (at count : ℕ) → at + scope_size ≤ count → count ≤ length W
    → W₁ ≡ cut at scope_size (take count W) ++ drop (count - scope_size) W
    → length W₁ ≡ length W → length W₂ ≡ length W₁ → Cleared W₁ W₂ (count - scope_size) (length W₁)
    → W₂ ≡ cut at scope_size (take count W) ++ replicate (length W - (count - scope_size)) 0
remove_done W W₁ W₂ at count h g e m n c =
    let C = cut at scope_size (take count W) in
    let d = down_long W at count h g in
    cleared_tail W₁ W₂ (count - scope_size) n (omega arith) c
    ∙ ap (λ x. x ++ replicate (length W₁ - (count - scope_size)) 0) (ap (take (count - scope_size)) e
    ∙ take_at C (drop (count - scope_size) W) (count - scope_size) (omega arith))
    ∙ ap (λ k. C ++ replicate (k - (count - scope_size)) 0) m
