-- The place of the first element that passes a test, found by a walk.
use Rattle.std.specs.Prelude.{Option, None, Some}
use Rattle.hir_def.specs.declared.Place.{Place}
use Rattle.std.specs.Prelude.{Option}
use Prim.Native.Nat.{ℕ, zero, suc, ◌+◌, ◌*◌, ◌-◌, ◌≤◌, ◌<◌}
use mathlib.Core.Path.{◌≡◌, refl, sym, ◌∙◌, ap, subst}
use mathlib.Core.List.{List, [], ◌∷◌}
use mathlib.Core.Bool.{Bool, true, false, false≢true, or-false}
use native.Mathlib.Omega.{arith}
use native.Mathlib.Nat.{add-zero, sub-zero}
use lib.ListN.{length, get_or, take, drop}
use lib.Seq.{get_or-take, get_or-drop}
use Rattle.snapshot.specs.Lists.{any, rows}
use Rattle.snapshot.specs.Words.{pay_of, words_of}
use Rattle.snapshot.specs.Sizes.{definition_size}
use Rattle.snapshot.specs.Records.{Name, Definition, name_at, definition_at}
use Rattle.snapshot.specs.Layouts.{records_of}
use Rattle.snapshot.proofs.Laws.{rows_next, rows_none, rows_whole}
use Rattle.check_rules.specs.Tests.{same_name}
use Rattle.check_rules.proofs.Names.{name_equal}
use Rattle.accept.proofs.Accepted.{by_test}
use Rattle.accept.proofs.Bools.{or_none_lem}
use Rattle.hir_def.specs.Finds.{place_of}
use Rattle.hir_def.specs.Tests.{PassedBy, NextBy}
use Rattle.hir_def.proofs.Searches.{met_by, passed_by}
use Rattle.join.specs.numbers.Parts.{after_name, names_from}
use Rattle.join.specs.numbers.Numbered.{is_named}

-- a loop that looks for the place: what is left of the list gives it
module _ {A : Type 0} (p : A → Bool) (whole k : ℕ) (ys : List A) (e : whole ≡ place_of p k ys) where
  pub place_hit : (x : A) (xs : List A) → ys ≡ x ∷ xs → p x ≡ true → k ≡ whole
  unfolding place_of
  place_hit x xs q t = sym (e ∙ ap (place_of p k) q ∙ rw (place_of, t))

  pub place_miss : (x : A) (xs : List A) → ys ≡ x ∷ xs → p x ≡ false → whole ≡ place_of p (k + 1) xs
  unfolding place_of
  place_miss x xs q t = e ∙ ap (place_of p k) q ∙ rw (place_of, t)

  pub place_end : ys ≡ [] → k ≡ whole
  unfolding place_of
  place_end q = sym (e ∙ ap (place_of p k) q)

-- where none passes
pub place_none : {A : Type 0} (p : A → Bool) (k : ℕ) (xs : List A) → any p xs ≡ false → place_of p k xs ≡ k + length xs
unfolding place_of any
place_none p k [] e = omega arith
place_none p k (x ∷ xs) e =
    let o = or_none_lem (p x) (any p xs) e in
    let a = o.0 in
    let r = place_none p (k + 1) xs o.1 in
    rw (place_of, a) (r ∙ omega arith)

-- by another test
pub place_by : {A : Type 0} (p q : A → Bool) (k : ℕ) (xs : List A) → ((x : A) → p x ≡ q x) → place_of p k xs ≡ place_of q k xs
unfolding place_of
place_by p q k [] h = refl
place_by p q k (x ∷ xs) h =
    by_test (q x)
    (λ t. let a = h x ∙ t in rw (place_of, a, t))
    (λ t. let a = h x ∙ t in rw (place_of, a, t) (place_by p q (k + 1) xs h))

-- names that are walked

module _ (W : List ℕ) (at k n : ℕ) where
  pub names_next : k < n → names_from W at (n - k) ≡ name_at W at ∷ names_from W (after_name W at) (n - (k + 1))
  unfolding names_from
  names_next h = let e : n - k ≡ suc (n - (k + 1)) = omega arith in rw e

  pub names_end : n ≤ k → names_from W at (n - k) ≡ []
  unfolding names_from
  names_end h = let e : n - k ≡ 0 = omega arith in rw e

-- of two names either may come first
pub same_turned : (x y : Name) → same_name x y ≡ same_name y x
same_turned x y =
    by_test (same_name x y) (λ a. let e = name_equal x y a in ap (λ z. same_name z y) e ∙ ap (same_name y) (sym e))
    (λ a.
    by_test (same_name y x) (λ b. let e = name_equal y x b in absurd (false≢true (sym a ∙ ap (λ z. same_name z y) (sym e) ∙ ap (same_name y) e ∙ b)))
    (λ b. a ∙ sym b))

-- a test of one name
pub known_one : (W X A P : List ℕ) (at i : ℕ) (r : Bool) → r ≡ any (same_name (name_at W at)) (rows (λ k. name_at X (get_or P k 0)) 0 1)
    → get_or P 0 0 ≡ get_or A i 0 → same_name (name_at X (get_or A i 0)) (name_at W at) ≡ r
unfolding any rows
known_one W X A P at i r e q =
    ap (λ h. same_name (name_at X h) (name_at W at)) (sym q) ∙ same_turned (name_at X (get_or P 0 0)) (name_at W at)
    ∙ sym (or-false (same_name (name_at W at) (name_at X (get_or P 0 0)))) ∙ sym e

-- where the walk begins
pub names_whole : (p : Name → Bool) (W : List ℕ) (n : ℕ) → place_of p 0 (names_from W 0 n) ≡ place_of p 0 (names_from W 0 (n - 0))
names_whole p W n = rw sub-zero

-- the builtin with a name, among the definitions from a place on
module _ (W : List ℕ) (name n : ℕ) {P : ℕ → Bool → Type 0} {b base : ℕ} (same : b ≡ base)
    (agree : (h : ℕ) (t : Bool) → P h t → t ≡ is_named name (definition_at W h))
  where
    abbrev here : ℕ → Definition
    here j = definition_at W (base + definition_size * j)

    abbrev whole : ℕ
    whole = place_of (is_named name) 0 (records_of definition_at definition_size W base n)

    tested : (i : ℕ) {h : ℕ} {t : Bool} → h ≡ b + definition_size * i → P h t → is_named name (here i) ≡ t
    tested i {h} e p =
        ap (λ x. is_named name (definition_at W (x + definition_size * i))) (sym same) ∙ ap (λ x. is_named name (definition_at W x)) (sym e)
        ∙ sym (agree _ _ p)

    builtins_to : (j : ℕ) → j ≤ n → PassedBy P definition_size b 0 j → whole ≡ place_of (is_named name) j (rows here j (n - j))
    builtins_to zero i p = rows_whole (place_of (is_named name) 0) here n
    builtins_to (suc j) i p =
        subst (λ y. whole ≡ place_of (is_named name) y (rows here y (n - y))) (omega arith)
        (place_miss (is_named name) whole j _ (builtins_to j (omega arith) (λ y u v. p y u (omega arith))) (here j) _
        (rows_next here j n (omega arith)) (tested j refl (p j (omega arith) (omega arith))))

    pub builtin_found : {x : Option Place} {w : Place} → NextBy P definition_size b n 0 x → x ≡ Some w → w.number ≡ whole
    builtin_found {w = w} x e =
        let j = w.number in
        let m = met_by P definition_size b n 0 x e in
        place_hit (is_named name) whole j _ (builtins_to j (let i = m.below in omega arith) m.before) (here j) _ (rows_next here j n m.below)
        (tested j m.head m.passes)

    pub builtin_none : {x : Option Place} → NextBy P definition_size b n 0 x → x ≡ None → n ≡ whole
    builtin_none x e =
        let p = passed_by P definition_size b n 0 x e in
        place_end (is_named name) whole n _ (builtins_to n (omega arith) p) (rows_none here n n (omega arith))

-- the name with its head at a place, among those that are walked
module _ (W X A : List ℕ) (i at k count whole : ℕ)
    (e : whole ≡ place_of (same_name (name_at X (get_or A i 0))) k (names_from W at (count - k)))
  where
    abbrev is_it : Name → Bool
    is_it = same_name (name_at X (get_or A i 0))

    pub name_hit : (P : List ℕ) {r : Bool} → k < count → r ≡ any (same_name (name_at W at)) (rows (λ j. name_at X (get_or P j 0)) 0 1)
        → get_or P 0 0 ≡ get_or A i 0
        → r ≡ true → k ≡ whole
    name_hit P {r} h q g t =
        place_hit is_it whole k _ e (name_at W at) _ (names_next W at k count h) (known_one W X A P at i r q g ∙ t)

    pub name_miss : (P : List ℕ) {r : Bool} {bytes size : ℕ} → k < count
        → r ≡ any (same_name (name_at W at)) (rows (λ j. name_at X (get_or P j 0)) 0 1)
        → get_or P 0 0 ≡ get_or A i 0 → r ≡ false → bytes ≡ pay_of (get_or W at 0) → size ≡ words_of bytes
        → whole ≡ place_of is_it (k + 1) (names_from W (at + 1 + size) (count - (k + 1)))
    name_miss P {r} h q g t b z =
        place_miss is_it whole k _ e (name_at W at) _ (names_next W at k count h) (known_one W X A P at i r q g ∙ t)
        ∙ ap (λ n. place_of is_it (k + 1) (names_from W (at + 1 + n) (count - (k + 1)))) (sym (z ∙ ap words_of b))

    pub name_end : count ≤ k → k ≡ whole
    name_end h = place_end is_it whole k _ e (names_end W at k count h)

-- the first word of a part
pub part_first : (A : List ℕ) (i n : ℕ) → i < length A → n ≡ length A - i → get_or (take n (drop i A)) 0 0 ≡ get_or A i 0
part_first A i n h e = get_or-take n (drop i A) 0 0 (omega arith) ∙ get_or-drop i A 0 0 ∙ ap (λ j. get_or A j 0) (add-zero i)
