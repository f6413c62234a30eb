-- Numbers that fall keep what they have.
use Prim.Native.Nat.{ℕ, zero, suc, ◌+◌, ◌≤◌, ◌<◌}
use mathlib.Core.Path.{◌≡◌, refl, sym, ◌∙◌, subst}
use mathlib.Core.List.{List}
use native.Mathlib.Omega.{arith}
use lib.Dec.{eqb}
use lib.ListN.{length, get_or, set}
use lib.Seq.{get_or-set_same, get_or-set_other, take-set-le}
use borrow.Author.Tests.{eqb-true, eqb-false}
use Rattle.snapshot.specs.Lists.{rows}
use Rattle.snapshot.specs.Records.{Snapshot, Scope}
use Rattle.snapshot.specs.Layouts.{table_words, snap_of}
use Rattle.snapshot.specs.declared.layout.Layout.{Layout}
use Rattle.accept.specs.Post.{Reads}
use Rattle.accept.specs.Valid.{Each, none, more}
use Rattle.accept.proofs.Accepted.{by_test}
use Rattle.accept.proofs.Bools.{each_map}
use Rattle.find_path_spec.proofs.laws.Tables.{same_snap, same_reads}
use Rattle.find_path_local.specs.distances.Distances.{distance, Named}
use Rattle.find_path_local.specs.distances.Post.{Ready, Far, Lowers}

-- all of a list that is read off
rows_from : {A : Type 0} {P : A → Type 0} (f : ℕ → A) (k n : ℕ) → ((i : ℕ) → i < n → P (f (k + i))) → Each P (rows f k n)
unfolding rows
rows_from f k zero h = none
rows_from {P = P} f k (suc n) h =
    let e : k + 0 ≡ k = omega arith in
    let g : (i : ℕ) → k + (i + 1) ≡ k + 1 + i = λ i. omega arith in
    more (subst (λ (z : ℕ). P (f z)) e (h 0 (omega arith)))
    (rows_from f (k + 1) n (λ i q. subst (λ (z : ℕ). P (f z)) (g i) (h (i + 1) (omega arith))))

pub rows_each : {A : Type 0} {P : A → Type 0} (f : ℕ → A) (n : ℕ) → ((i : ℕ) → i < n → P (f i)) → Each P (rows f 0 n)
rows_each {P = P} f n h = rows_from f 0 n (λ i q. let e : i ≡ 0 + i = omega arith in subst (λ (z : ℕ). P (f z)) e (h i q))

module _ {A B : List ℕ} where
  pub lowers_then : {C : List ℕ} → Lowers A B → Lowers B C → Lowers A C
  lowers_then f g =
      record {
        less = λ i. let p = f.less i in let q = g.less i in omega arith;
        some = λ i h. g.some i (f.some i h);
        tables = g.tables ∙ f.tables;
      }

  module _ (W : List ℕ) (l : Layout) (f : Lowers A B) where
    pub lowers_snap : Reads W A l → snap_of W B l ≡ snap_of W A l
    lowers_snap r = same_snap W A B l f.tables r

    pub lowers_ready : Ready W A l → length B ≡ length A → Ready W B l
    lowers_ready r e = record { reads = same_reads W A B l f.tables r.reads; area = e ∙ r.area }

    pub lowers_far : {n : ℕ} → Far n A → Far n B
    lowers_far h m q = let a = (h m q).1 in let b = f.less (table_words + m) in (f.some (table_words + m) (h m q).0, omega arith)

pub lowers_on : (A B C : List ℕ) → Lowers A B → Lowers B C → Lowers A C
lowers_on A B C f g = lowers_then f g

pub lowers_same : (A : List ℕ) → Lowers A A
lowers_same A = record { less = λ i. omega arith; some = λ i h. h; tables = refl }

-- a word is made smaller
module _ (A : List ℕ) (at v : ℕ) (past : table_words ≤ at) (there : at < length A) (less : v ≤ get_or A at 0) (some : 0 < v) where
  pub set_lowers : Lowers A (set A at v)
  set_lowers = record { less = each; some = each_some; tables = take-set-le table_words A at v past }
    where
      each : (i : ℕ) → get_or (set A at v) i 0 ≤ get_or A i 0
      each i =
          by_test (eqb i at)
          (λ t. let e = eqb-true i at t in let s = get_or-set_same A at v 0 there in
          subst (λ (z : ℕ). get_or (set A at v) z 0 ≤ get_or A z 0) (sym e) (omega (arith, s, less)))
          (λ t. let s = get_or-set_other A at i v 0 (eqb-false i at t) in omega (arith, s))

      each_some : (i : ℕ) → 0 < get_or A i 0 → 0 < get_or (set A at v) i 0
      each_some i h =
          by_test (eqb i at)
          (λ t. let e = eqb-true i at t in let s = get_or-set_same A at v 0 there in
          subst (λ (z : ℕ). 0 < get_or (set A at v) z 0) (sym e) (omega (arith, s, some)))
          (λ t. let s = get_or-set_other A at i v 0 (eqb-false i at t) in omega (arith, s, h))

-- smaller numbers have what larger ones have
module _ (s : Snapshot) (d d' : ℕ → ℕ) (less : (m : ℕ) → d' m ≤ d m) where
  pub named_less : (c : ℕ) (e : Scope) → Named s d c e → Named s d' c e
  unfolding Named
  named_less c e h m p q = let a = h m p q in let b = less m in omega arith

  pub all_less : (c : ℕ) {es : List Scope} → Each (Named s d c) es → Each (Named s d' c) es
  all_less c h = each_map (named_less c) h

-- of two areas where words fell
pub distances_less : {A B : List ℕ} → Lowers A B → (m : ℕ) → distance B m ≤ distance A m
distances_less f m = f.less (table_words + m)
