-- A table that is filled number by number.
use Prim.Native.Nat.{ℕ, ◌+◌, ◌≤◌, ◌<◌}
use mathlib.Core.Path.{◌≡◌, refl, sym, ◌∙◌, ap, subst}
use mathlib.Core.List.{List, [], ◌∷◌, ◌++◌}
use mathlib.Core.Bool.{Bool, not}
use native.Mathlib.Omega.{arith}
use native.Mathlib.Numerals.{add-one}
use borrow.Author.Count.{below_more}
use borrow.Author.Tests.{lt-ltb, le-ltb}
use lib.ListN.{length, get_or, take, set, length-set}
use lib.Seq.{get_or-set_same, get_or-set_other, take-suc, take_all, length-take-le}
use Rattle.snapshot.specs.Lists.{any}
use Rattle.accept.proofs.Accepted.{by_test}
use Rattle.hir_def.specs.Finds.{place_of, select}
use Rattle.find_path_spec.proofs.laws.Walks.{select_hit, select_miss}
use Rattle.join_rules.specs.Joined.{is_new, merged_number}
use Rattle.join_rules.proofs.Merged.{place_from}
use Rattle.join.specs.numbers.Numbered.{Filled, number_by, fresh_by}
use Rattle.join.proofs.numbers.Finding.{place_none}

-- one more word

pub filled_none : (A : List ℕ) (at : ℕ) (f : ℕ → ℕ) → Filled A A at f 0
filled_none A at f = record { size = refl; table = λ i h. absurd (omega arith); below = λ i h. refl; above = λ i h. refl }

pub filled_more : {A B : List ℕ} {at : ℕ} {f : ℕ → ℕ} {n : ℕ} (v : ℕ) → Filled A B at f n → at + n < length B → v ≡ f n
    → Filled A (set B (at + n) v) at f (n + 1)
filled_more {A} {B} {at} {f} {n} v g h e =
    record {
      size = length-set B (at + n) v ∙ g.size;
      table =
          below_more _ _ (λ i l. get_or-set_other B (at + n) (at + i) v 0 (λ z. omega arith) ∙ g.table i l)
          (get_or-set_same B (at + n) v 0 h ∙ e);
      below = λ i l. get_or-set_other B (at + n) i v 0 (λ z. omega arith) ∙ g.below i l;
      above = λ i l. get_or-set_other B (at + n) i v 0 (λ z. omega arith) ∙ g.above i (omega arith);
    }

-- the number that is put

pub put_old : (A : List ℕ) (at old place fresh : ℕ) → place < old
    → (set A at place ≡ set A at (number_by old place fresh)) × (fresh ≡ fresh_by old place fresh)
put_old A at old place fresh h = let t = lt-ltb place old h in (rw (number_by, t), rw (fresh_by, t))

pub put_new : (A : List ℕ) (at old place fresh : ℕ) → old ≤ place
    → (set A at (old + fresh) ≡ set A at (number_by old place fresh)) × (fresh + 1 ≡ fresh_by old place fresh)
put_new A at old place fresh h = let t = le-ltb place old h in (rw (number_by, t), rw (fresh_by, t))

-- elements that pass, among one more
select_snoc : {R : Type 0} (p : R → Bool) (ys : List R) (y : R) → length (select p (ys ++ (y ∷ []))) ≡ length (select p ys) + length
    (select p (y ∷ []))
unfolding select
select_snoc p [] y = omega arith
select_snoc p (x ∷ ys) y =
    let r = select_snoc p ys y in
    by_test (p x)
    (λ a. let q = ap length (select_hit p x (ys ++ (y ∷ [])) a) in let o = ap length (select_hit p x ys a) in omega arith)
    (λ a. let q = ap length (select_miss p x (ys ++ (y ∷ [])) a) in let o = ap length (select_miss p x ys a) in omega arith)

pub select_few : {R : Type 0} (p : R → Bool) (ys : List R) → length (select p ys) ≤ length ys
unfolding select
select_few p [] = omega arith
select_few p (y ∷ ys) =
    let r = select_few p ys in
    by_test (p y) (λ a. let q = ap length (select_hit p y ys a) in omega arith) (λ a. let q = ap length (select_miss p y ys a) in omega arith)

-- the numbers of the elements of ys in xs and the new ones of ys

module _ {R : Type 0} (same : R → R → Bool) (d : R) (xs ys : List R) where
  abbrev is_fresh : R → Bool
  is_fresh = is_new same xs

  fresh_next : (n : ℕ) → n < length ys
      → length (select is_fresh (take (n + 1) ys)) ≡ length (select is_fresh (take n ys)) + length (select is_fresh (get_or ys n d ∷ []))
  fresh_next n h =
      let e : take (n + 1) ys ≡ take n ys ++ (get_or ys n d ∷ []) = rw add-one (take-suc ys n d h) in
      ap (λ l. length (select is_fresh l)) e ∙ select_snoc is_fresh (take n ys) (get_or ys n d)

  -- what place-walk and count give is the number
  pub number_by_lem : (n old place fresh : ℕ) → old ≡ length xs → place ≡ place_of (same (get_or ys n d)) 0 xs
      → fresh ≡ length (select is_fresh (take n ys))
      → number_by old place fresh ≡ merged_number same d xs ys n
  unfolding merged_number
  number_by_lem n old place fresh o e f =
      let p = same (get_or ys n d) in
      by_test (any p xs)
      (λ a.
      let h = place_from p d xs 0 a in
      let h1 = h.1 in
      let h2 = h.2 in
      rw (lt-ltb place old (omega arith), number_by, merged_number, a) e)
      (λ a.
      let h = place_none p 0 xs a in
      rw (le-ltb place old (omega arith), number_by, merged_number, a) (omega arith))

  pub fresh_by_lem : (n old place fresh : ℕ) → n < length ys → old ≡ length xs → place ≡ place_of (same (get_or ys n d)) 0 xs
      → fresh ≡ length (select is_fresh (take n ys)) → fresh_by old place fresh ≡ length (select is_fresh (take (n + 1) ys))
  unfolding select
  fresh_by_lem n old place fresh l o e f =
      let y = get_or ys n d in
      let p = same y in
      let q = fresh_next n l in
      by_test (any p xs)
      (λ a.
      let h = place_from p d xs 0 a in
      let h1 = h.1 in
      let h2 = h.2 in
      let i = ap length (select_miss is_fresh y [] (ap not a)) in
      rw (lt-ltb place old (omega arith), fresh_by) (omega arith))
      (λ a.
      let h = place_none p 0 xs a in
      let i = ap length (select_hit is_fresh y [] (ap not a)) in
      rw (le-ltb place old (omega arith), fresh_by) (omega arith))

  -- a loop that numbers the elements of ys one after the other
  module _ (at : ℕ) where
    pub record Numbering (A B : List ℕ) (n fresh : ℕ) : Type 0 where
      pub upto : n ≤ length ys
      pub new : fresh ≡ length (select is_fresh (take n ys))
      pub filled : Filled A B at (merged_number same d xs ys) n

    pub numbering_start : (A : List ℕ) → Numbering A A 0 0
    unfolding select
    numbering_start A = record { upto = omega arith; new = refl; filled = filled_none A at (merged_number same d xs ys) }

    pub numbering_next : (A B C : List ℕ) (n fresh old place r : ℕ) → Numbering A B n fresh → n < length ys → at + n < length A → old ≡ length xs
        → place ≡ place_of (same (get_or ys n d)) 0 xs → C ≡ set B (at + n) (number_by old place fresh) → r ≡ fresh_by old place fresh
        → Numbering A C (n + 1) r
    numbering_next A B C n fresh old place r h l w o e c q =
        let z = h.filled.size in
        let f = filled_more (number_by old place fresh) h.filled (omega arith) (number_by_lem n old place fresh o e h.new) in
        record {
          upto = omega arith;
          new = q ∙ fresh_by_lem n old place fresh l o e h.new;
          filled = subst (λ x. Filled A x at (merged_number same d xs ys) (n + 1)) (sym c) f;
        }

    pub numbering_done : (A B : List ℕ) (n fresh : ℕ) → Numbering A B n fresh → length ys ≤ n
        → Filled A B at (merged_number same d xs ys) (length ys) × (fresh ≡ length (select is_fresh ys))
    numbering_done A B n fresh h l =
        let u = h.upto in
        let e : n ≡ length ys = omega arith in (
          subst (λ m. Filled A B at (merged_number same d xs ys) m) e h.filled,
          h.new ∙ ap (λ l. length (select is_fresh l)) (take_all n ys l),
        )

    pub fresh_few : (A B : List ℕ) (n fresh : ℕ) → Numbering A B n fresh → fresh ≤ n
    fresh_few A B n fresh h = omega (arith, h.upto, h.new, select_few is_fresh (take n ys), length-take-le n ys h.upto)
