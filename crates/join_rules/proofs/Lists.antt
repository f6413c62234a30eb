-- Tests over the part of a list before an element, and records that got their places.
use Prim.Native.Nat.{ℕ, zero, suc, ◌+◌, ◌*◌, ◌<◌}
use mathlib.Core.Path.{◌≡◌, refl, ◌∙◌, ap, ap₂}
use mathlib.Core.List.{List, [], ◌∷◌, ◌++◌}
use mathlib.Core.Bool.{Bool, true, false}
use native.Mathlib.Omega.{arith}
use lib.ListN.{length, get_or, take, length-append}
use lib.Seq.{get_or-take, length-take-le}
use Rattle.snapshot.specs.Lists.{any, all, rows}
use Rattle.accept.specs.Valid.{Distinct}
use Rattle.edit_rules.specs.Written.{each_words}
use Rattle.find_path_spec.proofs.laws.Fewer.{or_right}
use Rattle.join_rules.specs.Joined.{placed_by}

pub any_not : {A : Type 0} (p : A → Bool) (d : A) (ys : List A) → ((j : ℕ) → j < length ys → p (get_or ys j d) ≡ false) → any p ys ≡ false
unfolding any
any_not p d [] h = refl
any_not p d (y ∷ ys) h =
    let a : p y ≡ false = h 0 (omega arith) in
    rw (a, any_not p d ys (λ j l. h (suc j) (omega arith)))

pub any_has : {A : Type 0} (p : A → Bool) (d : A) (ys : List A) (j : ℕ) → j < length ys → p (get_or ys j d) ≡ true → any p ys ≡ true
unfolding any
any_has p d [] j l e = absurd (omega arith)
any_has p d (y ∷ ys) zero l e = rw e
any_has p d (y ∷ ys) (suc j) l e = let r = any_has p d ys j (omega arith) e in or_right (p y) (any p ys) r

-- a test of all the numbers from k on
pub all_rows : (p : ℕ → Bool) (k n : ℕ) → ((i : ℕ) → i < k + n → p i ≡ true) → all p (rows (λ i. i) k n) ≡ true
unfolding all rows
all_rows p k zero h = refl
all_rows p k (suc n) h = let a = h k (omega arith) in rw (a, all_rows p (k + 1) n (λ i l. h i (omega arith)))

-- the elements before one
module _ {A : Type 0} (d : A) (zs : List A) (i : ℕ) (l : i < length zs) where
  pub before_length : length (take i zs) ≡ i
  before_length = length-take-le i zs (omega arith)

  pub before_any : (p : A → Bool) → ((j : ℕ) → j < i → p (get_or zs j d) ≡ false) → any p (take i zs) ≡ false
  before_any p h =
      let n = before_length in
      any_not p d (take i zs) (λ j k. let m : j < i = omega arith in ap p (get_or-take i zs j d m) ∙ h j m)

  pub before_apart : (same : A → A → Bool) → Distinct same d zs → any (same (get_or zs i d)) (take i zs) ≡ false
  before_apart same h = before_any (same (get_or zs i d)) (λ j k. h j i k l)

-- records at their places
module _ {A : Type 0} (put : ℕ → A → A) (size : ℕ) where
  pub placed_length : (at : ℕ) (xs : List A) → length (placed_by put size at xs) ≡ length xs
  unfolding placed_by
  placed_length at [] = refl
  placed_length at (x ∷ xs) = ap suc (placed_length (at + size) xs)

  pub placed_at : (d : A) (at : ℕ) (xs : List A) (i : ℕ) → i < length xs → get_or (placed_by put size at xs) i d ≡ put (at + size * i) (get_or xs i d)
  unfolding placed_by
  placed_at d at [] i h = absurd (omega arith)
  placed_at d at (x ∷ xs) zero h = let e : at ≡ at + size * 0 = omega arith in ap (λ j. put j x) e
  placed_at d at (x ∷ xs) (suc i) h =
      let e : at + size + size * i ≡ at + size * suc i = omega arith in
      placed_at d (at + size) xs i (omega arith) ∙ ap (λ j. put j (get_or xs i d)) e

  -- what does not see the place
  pub placed_field : {B : Type 0} (f : A → B) → ((j : ℕ) (x : A) → f (put j x) ≡ f x) → (d : A) (at : ℕ) (xs : List A) (i : ℕ)
      → f (get_or (placed_by put size at xs) i d) ≡ f (get_or xs i d)
  unfolding placed_by
  placed_field f h d at [] i = refl
  placed_field f h d at (x ∷ xs) zero = h at x
  placed_field f h d at (x ∷ xs) (suc i) = placed_field f h d (at + size) xs i

  pub placed_words : (f : A → List ℕ) → ((j : ℕ) (x : A) → f (put j x) ≡ f x) → (at : ℕ) (xs : List A)
      → each_words f (placed_by put size at xs) ≡ each_words f xs
  unfolding placed_by each_words
  placed_words f h at [] = refl
  placed_words f h at (x ∷ xs) = ap₂ (λ a b. a ++ b) (h at x) (placed_words f h (at + size) xs)

-- records of one size
pub sized_length : {A : Type 0} (f : A → List ℕ) (size : ℕ) → ((x : A) → length (f x) ≡ size) → (xs : List A)
    → length (each_words f xs) ≡ size * length xs
unfolding each_words
sized_length f size h [] = omega arith
sized_length f size h (x ∷ xs) =
    let a = sized_length f size h xs in
    let b = h x in
    let c = length-append (f x) (each_words f xs) in
    let e : size * suc (length xs) ≡ size + size * length xs = omega arith in
    omega arith
