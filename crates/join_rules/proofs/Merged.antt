-- Merged lists: where each element stands.
use Prim.Native.Nat.{ℕ, zero, suc, ◌+◌, ◌-◌, ◌≤◌, ◌<◌}
use mathlib.Core.Path.{◌≡◌, refl, sym, ◌∙◌, ap, ap₂}
use mathlib.Core.List.{List, [], ◌∷◌, ◌++◌, map}
use mathlib.Core.Bool.{Bool, true, false, false≢true}
use native.Mathlib.Omega.{arith}
use native.Mathlib.Nat.{add-zero, zero-add}
use borrow.Author.Tests.{ltb-true, ltb-false, not-true, not-false, eq-eqb}
use lib.Dec.{ltb}
use lib.ListN.{length, get_or, take, length-append, get_or-append, length-map}
use lib.Seq.{get_or-append-add}
use Rattle.snapshot.specs.Lists.{any, eq_list}
use Rattle.snapshot.specs.Records.{Name}
use Rattle.check_rules.specs.Tests.{same_name}
use Rattle.accept.proofs.Accepted.{by_test}
use Rattle.accept.proofs.Bools.{or_right, any_none}
use Rattle.hir_def.specs.Finds.{place_of, select}
use Rattle.find_path_spec.proofs.laws.Walks.{select_hit, select_miss}
use Rattle.join_rules.specs.Joined.{is_new, merged, merged_number}

-- two lists, one after the other

pub by_part : {A C : Type 0} (xs ys : List A) (i : ℕ) → i < length (xs ++ ys) → (i < length xs → C)
    → ((j : ℕ) → i ≡ length xs + j → j < length ys → C) → C
by_part xs ys i l f g =
    let n = length-append xs ys in
    by_test (ltb i (length xs)) (λ a. f (ltb-true i (length xs) a))
    (λ a. let b = ltb-false i (length xs) a in g (i - length xs) (omega arith) (omega arith))

pub map_at_lem : {A B : Type 0} (f : A → B) (d : A) (e : B) (ys : List A) (j : ℕ) → j < length ys → get_or (map f ys) j e ≡ f (get_or ys j d)
map_at_lem f d e [] j l = absurd (omega arith)
map_at_lem f d e (y ∷ ys) zero l = refl
map_at_lem f d e (y ∷ ys) (suc j) l = map_at_lem f d e ys j (omega arith)

-- the first list, and the second with its elements changed
module _ {A : Type 0} (f : A → A) (d : A) (xs ys : List A) where
  pub both_length : length (xs ++ map f ys) ≡ length xs + length ys
  both_length = length-append xs (map f ys) ∙ ap (λ n. length xs + n) (length-map ys f)

  pub both_low : (i : ℕ) → i < length xs → get_or (xs ++ map f ys) i d ≡ get_or xs i d
  both_low i l = get_or-append xs (map f ys) d i l

  pub both_high : (j : ℕ) → j < length ys → get_or (xs ++ map f ys) (length xs + j) d ≡ f (get_or ys j d)
  both_high j l = get_or-append-add xs (map f ys) j d ∙ map_at_lem f d d ys j l

  pub by_both : {C : Type 0} (i : ℕ) → i < length (xs ++ map f ys) → (i < length xs → C) → ((j : ℕ) → i ≡ length xs + j → j < length ys → C) → C
  by_both i l g h = by_part xs (map f ys) i l g (λ j e k. h j e (let n = length-map ys f in omega arith))

-- the elements that pass a test

module _ {A : Type 0} (p : A → Bool) (d : A) where
  -- how many of the first n do
  abbrev pub kept : List A → ℕ → ℕ
  kept ys n = length (select p (take n ys))

  pub kept_at : (ys : List A) (n : ℕ) → n < length ys → p (get_or ys n d) ≡ true → (kept ys n < length (select p ys))
      × (get_or (select p ys) (kept ys n) d ≡ get_or ys n d)
  unfolding select
  kept_at [] n l e = absurd (omega arith)
  kept_at (y ∷ ys) zero l e = let q = select_hit p y ys e in (let n = ap length q in omega arith, ap (λ l. get_or l 0 d) q)
  kept_at (y ∷ ys) (suc n) l e =
      let r = kept_at ys n (omega arith) e in
      let r0 = r.0 in
      by_test (p y)
      (λ a.
      let q = select_hit p y ys a in
      let o = select_hit p y (take n ys) a in
      (let i = ap length q in let j = ap length o in omega arith, ap₂ (λ l m. get_or l (length m) d) q o ∙ r.1))
      (λ a.
      let q = select_miss p y ys a in
      let o = select_miss p y (take n ys) a in
      (let i = ap length q in let j = ap length o in omega arith, ap₂ (λ l m. get_or l (length m) d) q o ∙ r.1))

  pub kept_rise : (ys : List A) (j n : ℕ) → j ≤ n → kept ys j ≤ kept ys n
  unfolding select
  kept_rise ys zero n h = omega arith
  kept_rise [] (suc j) zero h = absurd (omega arith)
  kept_rise [] (suc j) (suc n) h = omega arith
  kept_rise (y ∷ ys) (suc j) zero h = absurd (omega arith)
  kept_rise (y ∷ ys) (suc j) (suc n) h =
      let r = kept_rise ys j n (omega arith) in
      by_test (p y)
      (λ a. let i = ap length (select_hit p y (take j ys) a) in let o = ap length (select_hit p y (take n ys) a) in omega arith)
      (λ a. let i = ap length (select_miss p y (take j ys) a) in let o = ap length (select_miss p y (take n ys) a) in omega arith)

  pub kept_less : (ys : List A) (j n : ℕ) → j < n → j < length ys → p (get_or ys j d) ≡ true → kept ys j < kept ys n
  unfolding select
  kept_less [] j n h l e = absurd (omega arith)
  kept_less (y ∷ ys) j zero h l e = absurd (omega arith)
  kept_less (y ∷ ys) zero (suc n) h l e = let o = ap length (select_hit p y (take n ys) e) in omega arith
  kept_less (y ∷ ys) (suc j) (suc n) h l e =
      let r = kept_less ys j n (omega arith) (omega arith) e in
      by_test (p y)
      (λ a. let i = ap length (select_hit p y (take j ys) a) in let o = ap length (select_hit p y (take n ys) a) in omega arith)
      (λ a. let i = ap length (select_miss p y (take j ys) a) in let o = ap length (select_miss p y (take n ys) a) in omega arith)

  -- where an element that passes comes from
  pub record From (ys : List A) (i : ℕ) : Type 0 where
    pub number : ℕ
    pub inside : number < length ys
    pub passes : p (get_or ys number d) ≡ true
    pub same : get_or (select p ys) i d ≡ get_or ys number d
    pub before : kept ys number ≡ i

  from_later : (y : A) (ys : List A) (i : ℕ) → p y ≡ false → From ys i → From (y ∷ ys) i
  from_later y ys i a r =
      record {
        number = suc r.number;
        inside = omega (arith, r.inside);
        passes = r.passes;
        same = ap (λ l. get_or l i d) (select_miss p y ys a) ∙ r.same;
        before = ap length (select_miss p y (take r.number ys) a) ∙ r.before;
      }

  from_next : (y : A) (ys : List A) (i : ℕ) → p y ≡ true → From ys i → From (y ∷ ys) (suc i)
  from_next y ys i a r =
      record {
        number = suc r.number;
        inside = omega (arith, r.inside);
        passes = r.passes;
        same = ap (λ l. get_or l (suc i) d) (select_hit p y ys a) ∙ r.same;
        before = ap length (select_hit p y (take r.number ys) a) ∙ ap suc r.before;
      }

  from_here : (y : A) (ys : List A) → p y ≡ true → From (y ∷ ys) 0
  unfolding select
  from_here y ys a = record { number = 0; inside = omega arith; passes = a; same = ap (λ l. get_or l 0 d) (select_hit p y ys a); before = refl }

  pub from : (ys : List A) (i : ℕ) → i < length (select p ys) → From ys i
  unfolding select
  from [] i l = absurd (omega arith)
  from (y ∷ ys) zero l =
      by_test (p y) (λ a. from_here y ys a) (λ a. let q = ap length (select_miss p y ys a) in from_later y ys 0 a (from ys 0 (omega arith)))
  from (y ∷ ys) (suc i) l =
      by_test (p y)
      (λ a. let q = ap length (select_hit p y ys a) in from_next y ys i a (from ys i (omega arith)))
      (λ a. let q = ap length (select_miss p y ys a) in from_later y ys (suc i) a (from ys (suc i) (omega arith)))

  -- in order
  pub from_less : (ys : List A) (i j : ℕ) (a : From ys i) (b : From ys j) → i < j → a.number < b.number
  from_less ys i j a b h =
      by_test (ltb a.number b.number) (λ c. ltb-true a.number b.number c)
      (λ c.
      let r = kept_rise ys b.number a.number (ltb-false a.number b.number c) in
      let x = a.before in
      let y = b.before in
      absurd (omega arith))

-- the first element that passes
pub place_from : {A : Type 0} (p : A → Bool) (d : A) (xs : List A) (k : ℕ) → any p xs ≡ true
    → (j : ℕ) × (place_of p k xs ≡ k + j) × (j < length xs) × (p (get_or xs j d) ≡ true)
unfolding place_of any
place_from p d [] k e = absurd (false≢true e)
place_from p d (x ∷ xs) k e =
    by_test (p x)
    (λ a. let q : place_of p k (x ∷ xs) ≡ k = rw (place_of, a) in (0, q ∙ sym (add-zero k), omega arith, a))
    (λ a.
    let r = place_from p d xs (k + 1) (or_right (p x) (any p xs) e a) in
    let q : place_of p k (x ∷ xs) ≡ place_of p (k + 1) xs = rw (place_of, a) in
    let o = r.1 in
    let l = r.2 in
    (suc r.0, omega arith, omega arith, r.3))

module _ {A : Type 0} (same : A → A → Bool) (d : A) (xs ys : List A) where
  -- a new element
  pub number_new : (n : ℕ) → is_new same xs (get_or ys n d) ≡ true → merged_number same d xs ys n ≡ length xs + length
      (select (is_new same xs) (take n ys))
  unfolding merged_number
  number_new n e = rw (merged_number, e)

  -- one that the first list has
  pub number_old : (n : ℕ) → is_new same xs (get_or ys n d) ≡ false
      → (merged_number same d xs ys n < length xs) × (same (get_or ys n d) (get_or xs (merged_number same d xs ys n) d) ≡ true)
  unfolding merged_number
  number_old n e =
      let h = place_from (same (get_or ys n d)) d xs 0 (not-false (any (same (get_or ys n d)) xs) e) in
      let q : merged_number same d xs ys n ≡ h.0 = rw (merged_number, e) (h.1 ∙ zero-add h.0) in
      let l = h.2 in
      (omega arith, ap (λ j. same (get_or ys n d) (get_or xs j d)) q ∙ h.3)

  -- none of the first list is the same as a new one
  pub new_apart : (y : A) → is_new same xs y ≡ true → (i : ℕ) → i < length xs → same y (get_or xs i d) ≡ false
  new_apart y e i l = any_none (same y) xs d i (not-true (any (same y) xs) e) l

  pub merged_length : length (merged same xs ys) ≡ length xs + length (select (is_new same xs) ys)
  unfolding merged
  merged_length = length-append xs (select (is_new same xs) ys)

  pub merged_low : (i : ℕ) → i < length xs → get_or (merged same xs ys) i d ≡ get_or xs i d
  unfolding merged
  merged_low i l = get_or-append xs (select (is_new same xs) ys) d i l

  pub merged_high : (j : ℕ) → get_or (merged same xs ys) (length xs + j) d ≡ get_or (select (is_new same xs) ys) j d
  unfolding merged
  merged_high j = get_or-append-add xs (select (is_new same xs) ys) j d

-- names with one text are one record

-- names with one text are one record

eqlist_refl : (xs : List ℕ) → eq_list xs xs ≡ true
unfolding eq_list
eqlist_refl [] = refl
eqlist_refl (x ∷ xs) = rw (eq-eqb x x refl, eqlist_refl xs)

pub name_refl : (x : Name) → same_name x x ≡ true
name_refl x = rw (eq-eqb x.bytes x.bytes refl, eqlist_refl x.text)
