-- Laws of the tests of a record.
use Prim.Native.Nat.{ℕ, zero, suc, ◌+◌, ◌-◌, ◌*◌, ◌≤◌, ◌<◌}
use mathlib.Core.Path.{◌≡◌, refl, sym, ◌∙◌, ap, ap₂}
use mathlib.Core.List.{List, [], ◌∷◌}
use mathlib.Core.Bool.{Bool, true, false, ◌&&◌, ◌||◌, false≢true}
use native.Mathlib.Omega.{arith}
use lib.ListN.{get_or}
use lib.Dec.{eqb, leb}
use borrow.Author.Tests.{eq-eqb, eqb-true, lt-ltb, le-ltb}
use Rattle.std.proofs.lemmas.Bool.{false_from_ne_true}
use Rattle.snapshot.specs.Lists.{rows, eq_list}
use Rattle.snapshot.specs.Refusals.{range_refusal, undefined_refusal, repeated_refusal, place_refusal, count_refusal, edition_refusal}
use Rattle.snapshot.specs.Words.{pay_of, words_of}
use Rattle.snapshot.specs.Records.{name_at}
use Rattle.snapshot.proofs.Laws.{rows_next, rows_none, get_d_rows}
use Rattle.check_rules.specs.Tests.{text_bound, padded, name_range, same_name}
use native.Mathlib.Nat.{add-zero, mul-le-mul_left}
use Rattle.check_records.specs.record_rules.Stands.{number_of, crate_number_of}
use Rattle.check_records.proofs.record_rules.Judged.{and_left, and_right}

pub bound_rest : (b : ℕ) → (b ≡ 0 → ⊥) → (b ≡ 1 → ⊥) → (b ≡ 2 → ⊥) → 16777216 ≡ text_bound b
unfolding text_bound
bound_rest zero h₀ h₁ h₂ = absurd (h₀ refl)
bound_rest (suc zero) h₀ h₁ h₂ = absurd (h₁ refl)
bound_rest (suc (suc zero)) h₀ h₁ h₂ = absurd (h₂ refl)
bound_rest (suc (suc (suc b))) h₀ h₁ h₂ = refl

-- a loop over the words of a text
module _ (f : ℕ → ℕ) (whole : Bool) (b i n : ℕ) (e : whole ≡ padded b (rows f i (n - i))) where
  pub padded_stop : {m w : ℕ} → i < n → m ≡ text_bound b → w ≡ f i → m ≤ w → false ≡ whole
  unfolding padded
  padded_stop h p q g = rw (e, rows_next f i n h, padded, ← p, ← q, le-ltb _ _ g)

  pub padded_go : {m w b' : ℕ} → i < n → m ≡ text_bound b → w ≡ f i → w < m → b' ≡ b - 3
      → whole ≡ padded b' (rows f (i + 1) (n - (i + 1)))
  unfolding padded
  padded_go h p q g r = rw (e, rows_next f i n h, padded, ← p, ← q, lt-ltb _ _ g, r)

  pub padded_end : n ≤ i → true ≡ whole
  unfolding padded
  padded_end h = rw (e, rows_none f i n h)

-- the judgement, test by test
module _ (a b c d e : Bool) where
  pub judge_32 : a ≡ false → range_refusal ≡ number_of a b c d e
  unfolding number_of
  judge_32 h = rw h

  pub judge_33 : a ≡ true → b ≡ false → undefined_refusal ≡ number_of a b c d e
  unfolding number_of
  judge_33 h i = rw (h, i)

  pub judge_34 : a ≡ true → b ≡ true → c ≡ true → repeated_refusal ≡ number_of a b c d e
  unfolding number_of
  judge_34 h i j = rw (h, i, j)

  pub judge_35 : a ≡ true → b ≡ true → c ≡ false → d ≡ false → place_refusal ≡ number_of a b c d e
  unfolding number_of
  judge_35 h i j k = rw (h, i, j, k)

  pub judge_36 : a ≡ true → b ≡ true → c ≡ false → d ≡ true → e ≡ false → count_refusal ≡ number_of a b c d e
  unfolding number_of
  judge_36 h i j k l = rw (h, i, j, k, l)

  pub judge_0 : a ≡ true → b ≡ true → c ≡ false → d ≡ true → e ≡ true → 0 ≡ number_of a b c d e
  unfolding number_of
  judge_0 h i j k l = rw (h, i, j, k, l)

module _ (a b e : Bool) where
  pub crate_32 : a ≡ false → range_refusal ≡ crate_number_of a b e
  unfolding crate_number_of
  crate_32 h = rw h

  pub crate_43 : a ≡ true → b ≡ false → edition_refusal ≡ crate_number_of a b e
  unfolding crate_number_of
  crate_43 h i = rw (h, i)

  pub crate_36 : a ≡ true → b ≡ true → e ≡ false → count_refusal ≡ crate_number_of a b e
  unfolding crate_number_of
  crate_36 h i j = rw (h, i, j)

  pub crate_0 : a ≡ true → b ≡ true → e ≡ true → 0 ≡ crate_number_of a b e
  unfolding crate_number_of
  crate_0 h i j = rw (h, i, j)

-- one more step of a size stays within all of them
pub step_le : (size k count : ℕ) → k < count → size * (k + 1) ≤ size * count
step_le size k count h = mul-le-mul_left size (omega arith)

pub or_yes : {a : Bool} (b : Bool) → a ≡ true → true ≡ (a || b)
or_yes b e = rw e

pub or_no : {a b r : Bool} → a ≡ false → r ≡ b → r ≡ (a || b)
or_no e f = rw e f

pub and_no : {a : Bool} (b : Bool) → a ≡ false → false ≡ (a && b)
and_no b e = rw e

pub and_yes : {a b r : Bool} → a ≡ true → r ≡ b → r ≡ (a && b)
and_yes e f = rw e f

-- names of the same number of bytes are the same where their words are
pub text_same : (L R : List ℕ) (a b : ℕ) {x y n : ℕ} {r : Bool} → x ≡ pay_of (get_or L a 0) → y ≡ pay_of (get_or R b 0) → x ≡ y → n ≡ words_of x
    → r ≡ eq_list (rows (λ i. get_or L (a + 1 + i) 0) 0 n) (rows (λ i. get_or R (b + 1 + i) 0) 0 n) → r ≡ same_name (name_at L a) (name_at R b)
text_same L R a b ex ey e en h =
    and_yes (eq-eqb _ _ (sym ex ∙ e ∙ ey))
    (h ∙ ap₂ (λ m k. eq_list (rows (λ i. get_or L (a + 1 + i) 0) 0 m) (rows (λ i. get_or R (b + 1 + i) 0) 0 k)) (en ∙ ap words_of ex)
    (en ∙ ap words_of (e ∙ ey)))

-- equal lists have the same number at each place
eq_at : (xs ys : List ℕ) (i : ℕ) → eq_list xs ys ≡ true → get_or xs i 0 ≡ get_or ys i 0
unfolding eq_list
eq_at [] [] i e = refl
eq_at [] (y ∷ ys) i e = absurd (false≢true e)
eq_at (x ∷ xs) [] i e = absurd (false≢true e)
eq_at (x ∷ xs) (y ∷ ys) zero e = eqb-true x y (and_left (eqb x y) (eq_list xs ys) e)
eq_at (x ∷ xs) (y ∷ ys) (suc i) e = eq_at xs ys i (and_right (eqb x y) (eq_list xs ys) e)

-- names of the same text agree in the last word of the first one
last_same : (L R : List ℕ) (a b n : ℕ) → n ≡ words_of (pay_of (get_or L a 0)) → same_name (name_at L a) (name_at R b) ≡ true
    → pay_of (get_or R (b + n) 0) ≡ pay_of (get_or L (a + n) 0)
last_same L R a b n en e = by n en
  where
    bytes : pay_of (get_or L a 0) ≡ pay_of (get_or R b 0)
    bytes = eqb-true _ _ (and_left (eqb (name_at L a).bytes (name_at R b).bytes) (eq_list (name_at L a).text (name_at R b).text) e)

    by : (n : ℕ) → n ≡ words_of (pay_of (get_or L a 0)) → pay_of (get_or R (b + n) 0) ≡ pay_of (get_or L (a + n) 0)
    by zero q = rw (add-zero, add-zero) (sym bytes)
    by (suc i) q =
        let f : ℕ → ℕ = λ j. get_or L (a + 1 + j) 0 in
        let g : ℕ → ℕ = λ j. get_or R (b + 1 + j) 0 in
        let t = eq_at (name_at L a).text (name_at R b).text i (and_right (eqb (name_at L a).bytes (name_at R b).bytes)
        (eq_list (name_at L a).text (name_at R b).text) e) in
        let x : a + suc i ≡ a + 1 + i = omega arith in
        let y : b + suc i ≡ b + 1 + i = omega arith in
        let h : i < words_of (pay_of (get_or L a 0)) = rw (← q) (omega arith) in
        let k : i < words_of (pay_of (get_or R b 0)) = rw (← bytes) h in
        rw (x, y) (ap pay_of (sym (get_d_rows g 0 _ i k) ∙ sym t ∙ get_d_rows f 0 _ i h))

pub text_unlike : (L R : List ℕ) (a b n : ℕ) → n ≡ words_of (pay_of (get_or L a 0)) → (pay_of (get_or R (b + n) 0) ≡ pay_of (get_or L (a + n) 0) → ⊥)
    → false ≡ same_name (name_at L a) (name_at R b)
text_unlike L R a b n en d = sym (false_from_ne_true (same_name (name_at L a) (name_at R b)) (λ e. d (last_same L R a b n en e)))

-- the test of a name's range, of what is read of it
pub range_is : (W : List ℕ) (at : ℕ) {bytes n : ℕ} {clean : Bool} → bytes ≡ pay_of (get_or W at 0) → n ≡ words_of bytes
    → clean ≡ padded bytes (rows (λ i. get_or W (at + 1 + i) 0) 0 n) → (leb 1 bytes && leb bytes 255 && clean) ≡ name_range (name_at W at)
range_is W at e f g = cc
