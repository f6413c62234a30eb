-- Tests taken apart, and lists that got one more.
use mathlib.Core.Path.{◌≡◌, refl, subst}
use Prim.Native.Nat.{ℕ, zero, suc, ◌<◌}
use native.Mathlib.Omega.{arith}
use mathlib.Core.List.{List, [], ◌∷◌, ◌++◌}
use mathlib.Core.Bool.{Bool, true, false, ◌&&◌, ◌||◌, not, true≢false, false≢true}
use lib.Dec.{eqb}
use lib.ListN.{length, get_or, length-append, get_or-append}
use borrow.Author.Tests.{eqb-true, eqb-false}
use Rattle.snapshot.specs.Lists.{rows, any, all}
use Rattle.snapshot.proofs.Laws.{length_rows, get_d_rows}
use Rattle.accept.specs.Valid.{Each, none, more, Distinct}
use Rattle.accept.proofs.Accepted.{by_test}

pub and_left : (a b : Bool) → a && b ≡ true → a ≡ true
and_left true b e = refl
and_left false b e = e

pub and_right : (a b : Bool) → a && b ≡ true → b ≡ true
and_right true b e = e
and_right false b e = absurd (false≢true e)

-- tests joined by and

pub and_two : (a b : Bool) → a && b ≡ true → (a ≡ true) × (b ≡ true)
and_two a b e = (and_left a b e, and_right a b e)

pub and_three : (a b c : Bool) → a && b && c ≡ true → (a ≡ true) × (b ≡ true) × (c ≡ true)
and_three a b c e = let f = and_two (a && b) c e in let g = and_two a b f.0 in (g.0, g.1, f.1)

pub and_four : (a b c d : Bool) → a && b && c && d ≡ true → (a ≡ true) × (b ≡ true) × (c ≡ true) × (d ≡ true)
and_four a b c d e = let f = and_two (a && b && c) d e in let g = and_three a b c f.0 in (g.0, g.1, g.2, f.1)

pub and_five : (a b c d f : Bool) → a && b && c && d && f ≡ true → (a ≡ true) × (b ≡ true) × (c ≡ true) × (d ≡ true) × (f ≡ true)
and_five a b c d f e = let g = and_two (a && b && c && d) f e in let h = and_four a b c d g.0 in (h.0, h.1, h.2, h.3, g.1)

-- a test that is needed under another
pub unless_right : (a b : Bool) → not a || b ≡ true → a ≡ true → b ≡ true
unless_right true b e h = e
unless_right false b e h = absurd (false≢true h)

pub or_right : (a b : Bool) → a || b ≡ true → a ≡ false → b ≡ true
or_right true b e h = absurd (true≢false h)
or_right false b e h = e

pub or_none_lem : (a b : Bool) → a || b ≡ false → (a ≡ false) × (b ≡ false)
or_none_lem true b e = absurd (true≢false e)
or_none_lem false b e = (refl, e)

pub length_snoc : {A : Type 0} (l : List A) (y : A) → length (l ++ (y ∷ [])) ≡ suc (length l)
length_snoc l y = rw length-append (omega arith)

pub get_or_old : {A : Type 0} (l : List A) (y d : A) (k : ℕ) → k < length l → get_or (l ++ (y ∷ [])) k d ≡ get_or l k d
get_or_old l y d k h = get_or-append l (y ∷ []) d k h

pub get_or_new : {A : Type 0} (l : List A) (y d : A) (k : ℕ) → k ≡ length l → get_or (l ++ (y ∷ [])) k d ≡ y
get_or_new [] y d k e = rw e
get_or_new (z ∷ l) y d zero e = absurd (omega arith)
get_or_new (z ∷ l) y d (suc k) e = get_or_new l y d k (omega arith)

-- a place of the longer list is an old one, or the new one
pub old_or_new : {A C : Type 0} (l : List A) (y : A) (k : ℕ) → k < length (l ++ (y ∷ [])) → (k < length l → C) → (k ≡ length l → C) → C
old_or_new l y k h f g =
    by_test (eqb k (length l)) (λ t. g (eqb-true k (length l) t))
    (λ t. let i = eqb-false k (length l) t in let s = length_snoc l y in f (omega arith))

-- tests of lists

pub any_none : {A : Type 0} (p : A → Bool) (xs : List A) (d : A) (i : ℕ) → any p xs ≡ false → i < length xs → p (get_or xs i d) ≡ false
unfolding any
any_none p [] d i e h = absurd (omega arith)
any_none p (x ∷ xs) d zero e h = (or_none_lem (p x) (any p xs) e).0
any_none p (x ∷ xs) d (suc i) e h = any_none p xs d i (or_none_lem (p x) (any p xs) e).1 (omega arith)

pub any_some : {A : Type 0} (p : A → Bool) (xs : List A) (d : A) → any p xs ≡ true
    → (i : ℕ) × (i < length xs) × (p (get_or xs i d) ≡ true)
unfolding any
any_some p [] d e = absurd (false≢true e)
any_some p (x ∷ xs) d e =
    by_test (p x) (λ t. (0, omega arith, t))
    (λ t. let f = any_some p xs d (or_right (p x) (any p xs) e t) in (suc f.0, omega (arith, f.1), f.2))

pub all_at : {A : Type 0} (p : A → Bool) (xs : List A) (d : A) (i : ℕ) → all p xs ≡ true → i < length xs → p (get_or xs i d) ≡ true
unfolding all
all_at p [] d i e h = absurd (omega arith)
all_at p (x ∷ xs) d zero e h = and_left (p x) (all p xs) e
all_at p (x ∷ xs) d (suc i) e h = all_at p xs d i (and_right (p x) (all p xs) e) (omega arith)

-- a test of all the numbers below n
pub all_below : (p : ℕ → Bool) (n i : ℕ) → all p (rows (λ k. k) 0 n) ≡ true → i < n → p i ≡ true
all_below p n i e h =
    subst (λ (k : ℕ). p k ≡ true) (get_d_rows (λ k. k) 0 n i h) (all_at p (rows (λ k. k) 0 n) 0 i e (rw (length_rows (λ (k : ℕ). k) n) h))

pub distinct_snoc : {A : Type 0} (same : A → A → Bool) (d : A) (xs : List A) (y : A) → any (same y) xs ≡ false → Distinct same d xs
    → Distinct same d (xs ++ (y ∷ []))
distinct_snoc same d xs y e h i j l k = old_or_new xs y j k
    (λ o. let oi : i < length xs = omega arith in rw (get_or_old xs y d i oi, get_or_old xs y d j o) (h i j l o))
    (λ q. let oi : i < length xs = omega arith in rw (get_or_old xs y d i oi, get_or_new xs y d j q) (any_none (same y) xs d i e oi))

-- every element

pub each_map : {A : Type 0} {P Q : A → Type 0} {xs : List A} → ((x : A) → P x → Q x) → Each P xs → Each Q xs
each_map f none = none
each_map f (more {x = x} p h) = more (f x p) (each_map f h)

pub each_snoc : {A : Type 0} {P : A → Type 0} {xs : List A} {y : A} → Each P xs → P y → Each P (xs ++ (y ∷ []))
each_snoc none q = more q none
each_snoc (more p h) q = more p (each_snoc h q)

-- the element at a place
pub each_at : {A : Type 0} {P : A → Type 0} {xs : List A} (d : A) (k : ℕ) → Each P xs → k < length xs → P (get_or xs k d)
each_at d k none l = absurd (omega arith)
each_at d zero (more p h) l = p
each_at d (suc k) (more p h) l = each_at d k h (omega arith)

-- the row at a place
pub each_rows : {A : Type 0} {P : A → Type 0} (f : ℕ → A) (n i : ℕ) → Each P (rows f 0 n) → i < n → P (f i)
each_rows {P = P} f n i h l =
    subst P (get_d_rows f (f 0) n i l) (each_at (f 0) i h (rw (length_rows f n) l))
