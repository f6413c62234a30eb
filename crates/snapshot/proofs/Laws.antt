-- Laws of rows, of the tests over lists and of argument counts.
use Prim.Native.Nat.{ℕ, zero, suc, ◌+◌, ◌-◌, ◌≤◌, ◌<◌}
use mathlib.Core.Path.{◌≡◌, refl, sym, ◌∙◌, ap, ap₂}
use mathlib.Core.List.{List, [], ◌∷◌, ◌++◌}
use mathlib.Core.Bool.{Bool, true, false}
use native.Mathlib.Omega.{arith}
use native.Mathlib.Numerals.{add-one}
use native.Mathlib.Nat.{add-zero, zero-add, sub-zero}
use lib.ListN.{length, get_or, take, drop, length-take, length-drop, drop_of_length-le}
use lib.Seq.{get_or-take, get_or-drop, ext_get_or, take_all, take-nil}
use borrow.Author.Tests.{eq-eqb, ne_eqb}
use Rattle.snapshot.specs.Lists.{rows, any, all, eq_list}
use Rattle.snapshot.specs.reading.Words.{pay_of, words_of, text_at}
use Rattle.snapshot.specs.Sizes.{argument_table, arguments_of}
use Rattle.snapshot.specs.Refusals.{refusal_number}
use Rattle.snapshot.specs.declared.refusal.Refusal.{Refusal}
use Rattle.snapshot.specs.declared.refusal.Refusal.TheVariants.{Area, Fuel, Field, Unknown, Macro, Words, Form, Range, Undefined, Repeated, Place}
use Rattle.snapshot.specs.declared.refusal.Refusal.TheVariants.{Count, Bytes, Rest, Question, Edition, Batch, Target, Limit, Entry, Room, Window}
use Rattle.snapshot.specs.declared.refusal.Refusal.TheVariants.{Waits, Join}
pub use Rattle.snapshot.proofs.reading.Laws.{past}

pub arguments_name : (k p : ℕ) → k ≡ 1 → words_of p ≡ arguments_of k p
unfolding arguments_of
arguments_name k p e = rw e

pub arguments_fixed : (k p : ℕ) → (k ≡ 1 → ⊥) → get_or argument_table k 0 ≡ arguments_of k p
unfolding arguments_of
arguments_fixed k p h = rw (arguments_of, ne_eqb _ _ h)

module _ {A : Type 0} (f : ℕ → A) where
  -- the first of the rows from k to n
  pub rows_next : (k n : ℕ) → k < n → rows f k (n - k) ≡ f k ∷ rows f (k + 1) (n - (k + 1))
  unfolding rows
  rows_next k n h = let e : n - k ≡ suc (n - (k + 1)) = omega arith in rw e

  pub rows_none : (k n : ℕ) → n ≤ k → rows f k (n - k) ≡ []
  unfolding rows
  rows_none k n h = let e : n - k ≡ 0 = omega arith in rw e

  rows_snoc' : (k n : ℕ) → rows f k (suc n) ≡ rows f k n ++ (f (k + n) ∷ [])
  unfolding rows
  rows_snoc' k zero = rw add-zero
  rows_snoc' k (suc n) =
      let e : k + suc n ≡ k + 1 + n = omega arith in
      rw e (ap (λ l. f k ∷ l) (rows_snoc' (k + 1) n))

  -- one row more, at the end
  pub rows_snoc : (n : ℕ) → rows f 0 (n + 1) ≡ rows f 0 n ++ (f n ∷ [])
  rows_snoc n = rw add-one (rows_snoc' 0 n ∙ rw zero-add)

  length_rows' : (k n : ℕ) → length (rows f k n) ≡ n
  unfolding rows
  length_rows' k zero = refl
  length_rows' k (suc n) = ap suc (length_rows' (k + 1) n)

  pub length_rows : (n : ℕ) → length (rows f 0 n) ≡ n
  length_rows n = length_rows' 0 n

  get_or_rows' : (d : A) (k n i : ℕ) → i < n → get_or (rows f k n) i d ≡ f (k + i)
  unfolding rows
  get_or_rows' d k zero i h = let z : ⊥ = omega arith in absurd z
  get_or_rows' d k (suc n) zero h = rw add-zero
  get_or_rows' d k (suc n) (suc i) h =
      let e : k + suc i ≡ k + 1 + i = omega arith in
      rw e (get_or_rows' d (k + 1) n i (omega arith))

  -- the row of a number
  pub get_d_rows : (d : A) (n i : ℕ) → i < n → get_or (rows f 0 n) i d ≡ f i
  get_d_rows d n i h = get_or_rows' d 0 n i h ∙ rw zero-add

-- a function of all rows, where a loop begins
pub rows_whole : {A B : Type 0} (g : List A → B) (f : ℕ → A) (n : ℕ) → g (rows f 0 n) ≡ g (rows f 0 (n - 0))
rows_whole g f n = rw sub-zero

rows_ext' : {A : Type 0} (f g : ℕ → A) (k n : ℕ) → ((i : ℕ) → i < k + n → f i ≡ g i) → rows f k n ≡ rows g k n
unfolding rows
rows_ext' f g k zero h = refl
rows_ext' f g k (suc n) h =
    rw (h k (omega arith)) (ap (λ l. g k ∷ l) (rows_ext' f g (k + 1) n (λ i p. h i (omega arith))))

-- rows that agree below n
pub rows_ext : {A : Type 0} (f g : ℕ → A) (n : ℕ) → ((i : ℕ) → i < n → f i ≡ g i) → rows f 0 n ≡ rows g 0 n
rows_ext f g n h = rows_ext' f g 0 n (λ i p. h i (omega arith))

-- where there is none, it does not matter where it would be
pub rows_zero : {A : Type 0} (f g : ℕ → A) (n : ℕ) → n ≡ 0 → rows f 0 n ≡ rows g 0 n
unfolding rows
rows_zero f g n e = rw e

-- rows that read on from a place are a part of the list
pub rows_part : (W : List ℕ) (a n : ℕ) → a + n ≤ length W → rows (λ i. get_or W (a + i) 0) 0 n ≡ take n (drop a W)
rows_part W a n h =
    let e : length (take n (drop a W)) ≡ n = simp (length-take, length-drop) (omega arith) in
    ext_get_or 0 (rows (λ i. get_or W (a + i) 0) 0 n) (take n (drop a W)) (length_rows _ n ∙ sym e)
    (λ i p.
    let q : i < n = rw (length_rows (λ j. get_or W (a + j) 0) n) at p in
    get_d_rows (λ j. get_or W (a + j) 0) 0 n i q ∙ sym (get_or-take n (drop a W) i 0 q ∙ get_or-drop a W i 0))

-- one row more, in a table that starts at b with a width w
pub rows_put : {A : Type 0} (f g : ℕ → A) (n : ℕ) (v : A) → ((k : ℕ) → k < n → g k ≡ f k) → g n ≡ v
    → rows g 0 (n + 1) ≡ rows f 0 n ++ (v ∷ [])
rows_put f g n v h e = rows_snoc g n ∙ ap₂ (λ x y. x ++ (y ∷ [])) (rows_ext g f n h) e

-- a loop that looks for some row
module _ {A : Type 0} (p : A → Bool) (f : ℕ → A) (whole : Bool) (k n : ℕ) (e : whole ≡ any p (rows f k (n - k))) where
  pub any_hit : k < n → p (f k) ≡ true → true ≡ whole
  unfolding any
  any_hit h t = rw (e, rows_next f k n h, any, t)

  pub any_miss : k < n → p (f k) ≡ false → whole ≡ any p (rows f (k + 1) (n - (k + 1)))
  unfolding any
  any_miss h t = rw (e, rows_next f k n h, any, t)

  pub any_none : n ≤ k → false ≡ whole
  unfolding any
  any_none h = rw (e, rows_none f k n h)

-- a loop that tests every row
module _ {A : Type 0} (p : A → Bool) (f : ℕ → A) (whole : Bool) (k n : ℕ) (e : whole ≡ all p (rows f k (n - k))) where
  pub all_stop : k < n → p (f k) ≡ false → false ≡ whole
  unfolding all
  all_stop h t = rw (e, rows_next f k n h, all, t)

  pub all_go : k < n → p (f k) ≡ true → whole ≡ all p (rows f (k + 1) (n - (k + 1)))
  unfolding all
  all_go h t = rw (e, rows_next f k n h, all, t)

  pub all_end : n ≤ k → true ≡ whole
  unfolding all
  all_end h = rw (e, rows_none f k n h)

-- a loop that compares two lists of rows
module _ (f g : ℕ → ℕ) (whole : Bool) (k n : ℕ) (e : whole ≡ eq_list (rows f k (n - k)) (rows g k (n - k))) where
  pub same_stop : k < n → (f k ≡ g k → ⊥) → false ≡ whole
  unfolding eq_list
  same_stop h t = rw (e, rows_next f k n h, rows_next g k n h, eq_list, ne_eqb _ _ t)

  pub same_go : k < n → f k ≡ g k → whole ≡ eq_list (rows f (k + 1) (n - (k + 1))) (rows g (k + 1) (n - (k + 1)))
  unfolding eq_list
  same_go h t = rw (e, rows_next f k n h, rows_next g k n h, eq_list, eq-eqb _ _ t)

  pub same_end : n ≤ k → true ≡ whole
  unfolding eq_list
  same_end h = rw (e, rows_none f k n h, rows_none g k n h)

-- the text of a name: none past the end, cut at the end, whole
pub text_none : (W : List ℕ) (h : ℕ) → length W ≤ h → [] ≡ text_at W h
text_none W h p =
    let q : length W ≤ h + 1 = omega arith in
    sym (ap (take (words_of (pay_of (get_or W h 0)))) (drop_of_length-le W q) ∙ take-nil (words_of (pay_of (get_or W h 0))))

pub text_cut : (W : List ℕ) (h n : ℕ) → n ≡ words_of (pay_of (get_or W h 0)) → length W - (h + 1) < n
    → take (length W - (h + 1)) (drop (h + 1) W) ≡ text_at W h
text_cut W h n e p =
    let q : length (drop (h + 1) W) ≡ length W - (h + 1) = simp length-drop in
    take_all (length W - (h + 1)) (drop (h + 1) W) (omega arith)
    ∙ sym (take_all (words_of (pay_of (get_or W h 0))) (drop (h + 1) W) (rw (← e) (omega arith)))

pub text_whole : (W : List ℕ) (h n : ℕ) → n ≡ words_of (pay_of (get_or W h 0)) → take (h + 1 + n - (h + 1)) (drop (h + 1) W) ≡ text_at W h
text_whole W h n e = let q : h + 1 + n - (h + 1) ≡ n = omega arith in ap (λ x. take x (drop (h + 1) W)) (q ∙ e)

-- a word some places after a head
pub after_head : (W : List ℕ) (h i : ℕ) → get_or W (h + (1 + i)) 0 ≡ get_or W (h + 1 + i) 0
after_head W h i = let e : h + (1 + i) ≡ h + 1 + i = omega arith in ap (λ x. get_or W x 0) e

-- a refusal's number is none that stands for something else
pub refusal_some : (r : Refusal) → refusal_number r ≡ 0 → ⊥
refusal_some Area e = omega arith
refusal_some Fuel e = omega arith
refusal_some Field e = omega arith
refusal_some Unknown e = omega arith
refusal_some Macro e = omega arith
refusal_some Words e = omega arith
refusal_some Form e = omega arith
refusal_some Range e = omega arith
refusal_some Undefined e = omega arith
refusal_some Repeated e = omega arith
refusal_some Place e = omega arith
refusal_some Count e = omega arith
refusal_some Bytes e = omega arith
refusal_some Rest e = omega arith
refusal_some Question e = omega arith
refusal_some Edition e = omega arith
refusal_some Batch e = omega arith
refusal_some Target e = omega arith
refusal_some Limit e = omega arith
refusal_some Entry e = omega arith
refusal_some Room e = omega arith
refusal_some Window e = omega arith
refusal_some Waits e = omega arith
refusal_some Join e = omega arith
