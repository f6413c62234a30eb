-- Laws of the order of texts and of entries.
use Prim.Native.Nat.{ℕ, ◌+◌, ◌*◌, ◌≤◌, ◌<◌}
use mathlib.Core.Path.{◌≡◌, refl, sym, ◌∙◌, ap₂}
use mathlib.Core.List.{List, [], ◌∷◌}
use mathlib.Core.Bool.{Bool, true, false, ◌&&◌, ◌||◌, not, true≢false, or-true, and-false}
use native.Mathlib.Omega.{arith}
use native.Mathlib.Numerals.{add-one}
use borrow.Author.Tests.{eq-eqb, ne_eqb, eqb-true, eqb-false, lt-ltb, le-ltb, ltb-true, ltb-false}
use lib.Dec.{eqb, ltb}
use lib.ListN.{length, get_or, take, drop, drop_of_length-le}
use lib.Seq.{length-take-le, drop-cons, get_or-take}
use Rattle.accept.proofs.Accepted.{by_test}
use Rattle.find_path_spec.specs.Line.{unpacked}
use Rattle.line.proofs.Laws.{length_unpacked}
use Rattle.snapshot.specs.Records.{Snapshot, Scope}
use Rattle.find_path_spec.specs.Line.{text_of}
use Rattle.import_rules.specs.Collect.{text_before, key_before, entry_before}
use Rattle.imports.proofs.order.Sorts.{Order}

-- the first n bytes
abbrev pub front : List ℕ → ℕ → List ℕ
front a n = take n (unpacked a)

front_length : (a : List ℕ) (n : ℕ) → n ≤ 3 * length a → length (front a n) ≡ n
front_length a n h = let e = length_unpacked a in length-take-le n (unpacked a) (omega arith)

front_next : (a : List ℕ) (n i x : ℕ) → n ≤ 3 * length a → i < n → x ≡ get_or (unpacked a) i 0 → drop i (front a n) ≡ x ∷ drop (i + 1) (front a n)
front_next a n i x h p e =
    let l = front_length a n h in
    drop-cons (front a n) i 0 (omega arith)
    ∙ ap₂ (λ y k. y ∷ drop k (front a n)) (get_or-take n (unpacked a) i 0 p ∙ sym e) (sym (add-one i))

front_end : (a : List ℕ) (n i : ℕ) → n ≤ 3 * length a → n ≤ i → drop i (front a n) ≡ []
front_end a n i h p = let l = front_length a n h in let q : length (front a n) ≤ i = omega arith in drop_of_length-le (front a n) q

module _ (a b : List ℕ) (n m i : ℕ) (ha : n ≤ 3 * length a) (hb : m ≤ 3 * length b)
    (e : text_before (front a n) (front b m) ≡ text_before (drop i (front a n)) (drop i (front b m)))
  where
    pub text_longer : i < n → m ≤ i → false ≡ text_before (front a n) (front b m)
    unfolding text_before
    text_longer p q = sym (e ∙ ap₂ text_before (front_next a n i _ ha p refl) (front_end b m i hb q))

    pub text_ended : n ≤ i → ltb i m ≡ text_before (front a n) (front b m)
    unfolding text_before
    text_ended p = by_test (ltb i m)
        (λ t. t ∙ sym (e ∙ ap₂ text_before (front_end a n i ha p) (front_next b m i _ hb (ltb-true i m t) refl)))
        (λ t. t ∙ sym (e ∙ ap₂ text_before (front_end a n i ha p) (front_end b m i hb (ltb-false i m t))))

    module _ (x y : ℕ) (p : i < n) (q : i < m) (ex : x ≡ get_or (unpacked a) i 0) (ey : y ≡ get_or (unpacked b) i 0) where
      split : text_before (front a n) (front b m) ≡ text_before (x ∷ drop (i + 1) (front a n)) (y ∷ drop (i + 1) (front b m))
      split = e ∙ ap₂ text_before (front_next a n i x ha p ex) (front_next b m i y hb q ey)

      pub text_less : x < y → true ≡ text_before (front a n) (front b m)
      unfolding text_before
      text_less h = sym (split ∙ rw (text_before, lt-ltb _ _ h))

      pub text_greater : y < x → false ≡ text_before (front a n) (front b m)
      unfolding text_before
      text_greater h =
          let g : y ≤ x = omega arith in
          sym (split ∙ rw (text_before, le-ltb _ _ g, ne_eqb x y (λ z. omega arith)))

      pub text_equal : y ≤ x → x ≤ y → text_before (front a n) (front b m) ≡ text_before (drop (i + 1) (front a n)) (drop (i + 1) (front b m))
      unfolding text_before
      text_equal h g =
          let z : x ≡ y = omega arith in
          split ∙ rw (text_before, le-ltb _ _ h, eq-eqb x y z)

-- the order of texts

pub text_never : (a : List ℕ) → text_before a a ≡ false
unfolding text_before
text_never [] = refl
text_never (x ∷ xs) = rw (text_before, le-ltb x x (omega arith), text_never xs) (and-false (eqb x x))

-- a longer text stands before another by its head, or by what follows
head_less : (x y : ℕ) (xs ys : List ℕ) → x < y → text_before (x ∷ xs) (y ∷ ys) ≡ true
unfolding text_before
head_less x y xs ys h = rw (text_before, lt-ltb x y h)

head_same : (x y : ℕ) (xs ys : List ℕ) → x ≡ y → text_before (x ∷ xs) (y ∷ ys) ≡ text_before xs ys
unfolding text_before
head_same x y xs ys h = let q : y ≤ x = omega arith in rw (text_before, le-ltb x y q, eq-eqb x y h)

head_greater : (x y : ℕ) (xs ys : List ℕ) → y < x → text_before (x ∷ xs) (y ∷ ys) ≡ false
unfolding text_before
head_greater x y xs ys h = let q : y ≤ x = omega arith in rw (text_before, le-ltb x y q, ne_eqb x y (λ z. omega arith))

-- of two numbers
by_order : {C : Type 0} (x y : ℕ) → (x < y → C) → (x ≡ y → C) → (y < x → C) → C
by_order x y p q r = by_test (ltb x y) (λ t. p (ltb-true x y t)) (λ t. by_test (eqb x y) (λ u. q (eqb-true x y u))
    (λ u. r (let v = ltb-false x y t in let w : (x ≡ y → ⊥) = eqb-false x y u in omega (arith, w))))

never_false : {C : Type 0} → false ≡ true → C
never_false e = absurd (true≢false (sym e))

pub text_through : (a b c : List ℕ) → text_before a b ≡ true → text_before b c ≡ true → text_before a c ≡ true
unfolding text_before
text_through [] [] c p q = never_false p
text_through [] (y ∷ ys) [] p q = never_false q
text_through [] (y ∷ ys) (z ∷ zs) p q = refl
text_through (x ∷ xs) [] c p q = never_false p
text_through (x ∷ xs) (y ∷ ys) [] p q = never_false q
text_through (x ∷ xs) (y ∷ ys) (z ∷ zs) p q =
    by_order x y
    (λ h. by_order y z (λ g. head_less x z xs zs (omega arith)) (λ g. head_less x z xs zs (omega arith))
    (λ g. never_false (sym (head_greater y z ys zs g) ∙ q)))
    (λ h. by_order y z
    (λ g. head_less x z xs zs (omega arith))
    (λ g. head_same x z xs zs (omega arith) ∙ text_through xs ys zs (sym (head_same x y xs ys h) ∙ p) (sym (head_same y z ys zs g) ∙ q))
    (λ g. never_false (sym (head_greater y z ys zs g) ∙ q)))
    (λ h. never_false (sym (head_greater x y xs ys h) ∙ p))

pub text_between : (a b c : List ℕ) → text_before a c ≡ true → text_before a b ≡ false → text_before b c ≡ true
unfolding text_before
text_between [] b [] p q = never_false p
text_between [] [] (z ∷ zs) p q = refl
text_between [] (y ∷ ys) (z ∷ zs) p q = never_false (sym q)
text_between (x ∷ xs) b [] p q = never_false p
text_between (x ∷ xs) [] (z ∷ zs) p q = refl
text_between (x ∷ xs) (y ∷ ys) (z ∷ zs) p q =
    by_order x y
    (λ h. never_false (sym q ∙ head_less x y xs ys h))
    (λ h. by_order x z
    (λ g. head_less y z ys zs (omega arith))
    (λ g. head_same y z ys zs (omega arith) ∙ text_between xs ys zs (sym (head_same x z xs zs g) ∙ p) (sym (head_same x y xs ys h) ∙ q))
    (λ g. never_false (sym (head_greater x z xs zs g) ∙ p)))
    (λ h. by_order x z (λ g. head_less y z ys zs (omega arith)) (λ g. head_less y z ys zs (omega arith))
    (λ g. never_false (sym (head_greater x z xs zs g) ∙ p)))

-- the order by a text and a number

key_text : (a b : List ℕ) (m n : ℕ) → text_before a b ≡ true → key_before a m b n ≡ true
key_text a b m n h = rw h

key_number : (a b : List ℕ) (m n : ℕ) → text_before b a ≡ false → m < n → key_before a m b n ≡ true
key_number a b m n h g = rw (h, lt-ltb m n g) (or-true (text_before a b))

-- what a key that stands before another has
by_key : {C : Type 0} (a b : List ℕ) (m n : ℕ) → key_before a m b n ≡ true → (text_before a b ≡ true → C) → (text_before b a ≡ false → m < n → C) → C
by_key {C} a b m n h f g = by (text_before a b) refl (text_before b a) refl (ltb m n) refl h
  where
    by : (p : Bool) → text_before a b ≡ p → (q : Bool) → text_before b a ≡ q → (r : Bool) → ltb m n ≡ r → (p || not q && r) ≡ true → C
    by true e q e' r e'' k = f e
    by false e true e' r e'' k = never_false k
    by false e false e' true e'' k = g e' (ltb-true m n e'')
    by false e false e' false e'' k = never_false k

-- neither of a and b stands before the other, nor of b and c
text_ties : (a b c : List ℕ) → text_before b a ≡ false → text_before c b ≡ false → text_before c a ≡ false
text_ties a b c p q = by_test (text_before c a) (λ t. never_false (sym p ∙ text_between c b a t q)) (λ t. t)

key_through : (a b c : List ℕ) (m n k : ℕ) → key_before a m b n ≡ true → key_before b n c k ≡ true → key_before a m c k ≡ true
key_through a b c m n k p q =
    by_key a b m n p
    (λ h. by_key b c n k q
    (λ g. key_text a c m k (text_through a b c h g))
    (λ g r. key_text a c m k (by_test (text_before a c) (λ t. t) (λ t. never_false (sym g ∙ text_between a c b h t)))))
    (λ h r. by_key b c n k q
    (λ g. key_text a c m k (text_between b a c g h))
    (λ g u. key_number a c m k (text_ties a b c h g) (omega arith)))

key_between : (a b c : List ℕ) (m n k : ℕ) → key_before a m c k ≡ true → key_before a m b n ≡ false → key_before b n c k ≡ true
key_between a b c m n k p q =
    let no_text : text_before a b ≡ false = by_test (text_before a b) (λ t. never_false (sym q ∙ key_text a b m n t)) (λ t. t) in
    by_key a c m k p
    (λ h. key_text b c n k (text_between a b c h no_text))
    (λ h r. by_test (text_before b a)
    (λ t. key_text b c n k (by_test (text_before b c) (λ u. u) (λ u. never_false (sym h ∙ text_between b c a t u))))
    (λ t. by_test (ltb m n)
    (λ u. never_false (sym q ∙ key_number a b m n t (ltb-true m n u)))
    (λ u. let v = ltb-false m n u in key_number b c n k (text_ties b a c no_text h) (omega arith))))

pub entry_order : (s : Snapshot) → Order (entry_before s)
unfolding entry_before
entry_order s =
    record {
      never = λ x. rw (text_never (text_of s x.name), le-ltb x.ns x.ns (omega arith));
      through = λ x y z. key_through (text_of s x.name) (text_of s y.name) (text_of s z.name) x.ns y.ns z.ns;
      between = λ x y z. key_between (text_of s x.name) (text_of s y.name) (text_of s z.name) x.ns y.ns z.ns;
    }

-- an entry before another, as it is tested
module _ (s : Snapshot) (x y : Scope) {p q m n : ℕ} (ep : p ≡ x.name) (eq : q ≡ y.name) (em : m ≡ x.ns) (en : n ≡ y.ns) where
  pub entry_same : p ≡ q → ltb m n ≡ entry_before s x y
  unfolding entry_before
  entry_same h =
      let e : x.name ≡ y.name = sym ep ∙ h ∙ eq in
      rw (entry_before, e, text_never (text_of s y.name), em, en)

  pub entry_text : text_before (text_of s p) (text_of s q) ≡ true → true ≡ entry_before s x y
  unfolding entry_before
  entry_text h = rw (entry_before, ← ep, ← eq, h)

  pub entry_other : {a : Bool} → text_before (text_of s p) (text_of s q) ≡ false → a ≡ text_before (text_of s q) (text_of s p)
      → (not a && ltb m n) ≡ entry_before s x y
  unfolding entry_before
  entry_other h e = rw (entry_before, ← ep, ← eq, h, e, em, en)
