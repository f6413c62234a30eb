-- Merging and sorting runs of entries in the work area.
use Prim.Native.Nat.{ℕ, zero, suc, ◌+◌, ◌-◌, ◌≤◌, ◌<◌}
use mathlib.Core.Path.{◌≡◌, refl, sym, ◌∙◌, ap, ap₂}
use mathlib.Core.List.{List, [], ◌∷◌, ◌++◌, append_assoc}
use mathlib.Core.Bool.{Bool, true, false, ◌&&◌, true≢false}
use native.Mathlib.Omega.{arith}
use native.Mathlib.Nat.{add-zero, zero-add}
use borrow.Author.Count.{below_more}
use borrow.Author.Tests.{lt-ltb, le-ltb, ltb-true, ltb-false}
use lib.Dec.{ltb}
use lib.ListN.{length, get_or, set, length-set}
use lib.Seq.{get_or-set_same, get_or-set_other}
use Rattle.snapshot.specs.Lists.{rows}
use Rattle.snapshot.specs.Records.{Scope, scope_at}
use Rattle.snapshot.proofs.Laws.{rows_next, rows_none, rows_put, rows_ext, rows_whole}
use Rattle.snapshot.specs.declared.layout.Layout.{Layout}
use Rattle.accept.proofs.Accepted.{by_test}
use Rattle.accept.proofs.Stable.{snap_stays, reads_stay}
use Rattle.import_rules.specs.Collect.{entry_before, insert_by, sort_into}
use Rattle.imports.specs.order.Lists.{order_of, entries_at, merge_by, Copied, Runs, Ready, Merges, Sorts}
use Rattle.imports.specs.order.Rooms.{entries_room, heads_room, spare_room}
use Rattle.imports.proofs.order.Orders.{entry_order}
use Rattle.imports.proofs.order.Sorts.{merge_second, merge_first, merge_none, sorted_merge}

-- copying

pub copied_none : (A : List ℕ) (from : ℕ) → Copied A A from 0
copied_none A from = record { size = refl; there = λ i h. absurd (omega arith); below = λ i h. refl }

pub copied_more : (A B : List ℕ) (from i v : ℕ) → Copied A B from i → spare_room + i < length A → from + i < heads_room
    → v ≡ get_or B (from + i) 0 → Copied A (set B (spare_room + i) v) from (i + 1)
copied_more A B from i v c fits low e =
    let z = c.size in
    record {
      size = length-set B (spare_room + i) v ∙ c.size;
      there =
          below_more (λ k. get_or (set B (spare_room + i) v) (spare_room + k) 0 ≡ get_or A (from + k) 0) i
          (λ k h. get_or-set_other B (spare_room + i) (spare_room + k) v 0 (λ q. omega arith) ∙ c.there k h)
          (get_or-set_same B (spare_room + i) v 0 (omega arith) ∙ e ∙ c.below (from + i) low);
      below = λ k h. get_or-set_other B (spare_room + i) k v 0 (λ q. omega arith) ∙ c.below k h;
    }

-- the rows from k on agree
pub rows_from : {A : Type 0} (f g : ℕ → A) (k n : ℕ) → ((i : ℕ) → k ≤ i → i < k + n → f i ≡ g i) → rows f k n ≡ rows g k n
unfolding rows
rows_from f g k zero h = refl
rows_from f g k (suc n) h = ap₂ (λ x r. x ∷ r) (h k (omega arith) (omega arith)) (rows_from f g (k + 1) n (λ i p q. h i (omega arith) (omega arith)))

-- rows that start later
rows_shift' : {A : Type 0} (f : ℕ → A) (a k n : ℕ) → rows f (a + k) n ≡ rows (λ i. f (a + i)) k n
unfolding rows
rows_shift' f a k zero = refl
rows_shift' f a k (suc n) =
    let e : a + k + 1 ≡ a + (k + 1) = omega arith in
    ap (λ r. f (a + k) ∷ r) (ap (λ x. rows f x n) e ∙ rows_shift' f a (k + 1) n)

pub rows_shift : {A : Type 0} (f : ℕ → A) (a n : ℕ) → rows f a n ≡ rows (λ i. f (a + i)) 0 n
rows_shift f a n = ap (λ x. rows f x n) (sym (add-zero a)) ∙ rows_shift' f a 0 n

-- rows in two parts
rows_parts' : {A : Type 0} (f : ℕ → A) (k a b : ℕ) → rows f k (a + b) ≡ rows f k a ++ rows f (k + a) b
unfolding rows
rows_parts' f k zero b = rw (zero-add, add-zero)
rows_parts' f k (suc a) b =
    let e : suc a + b ≡ suc (a + b) = omega arith in
    let q : k + 1 + a ≡ k + suc a = omega arith in
    ap (rows f k) e ∙ ap (λ r. f k ∷ r) (rows_parts' f (k + 1) a b ∙ ap (λ x. rows f (k + 1) a ++ rows f x b) q)

pub rows_parts : {A : Type 0} (f : ℕ → A) (a b : ℕ) → rows f 0 (a + b) ≡ rows f 0 a ++ rows (λ i. f (a + i)) 0 b
rows_parts f a b = rows_parts' f 0 a b ∙ ap (λ r. rows f 0 a ++ r) (ap (λ x. rows f x b) (zero-add a) ∙ rows_shift f a b)

-- merging: what was put, and what the rest of the two runs gives

pub record Merging (W : List ℕ) (before : Scope → Scope → Bool) (whole : List Scope) (A B : List ℕ) (from m n i j : ℕ) : Type 0 where
  pub first : i ≤ m
  pub second : j ≤ n
  pub frame : Runs A B from (from + m + n)
  pub left : whole ≡ entries_at W B from (i + j)
      ++ merge_by before (rows (λ k. scope_at W (get_or B (spare_room + k) 0)) i (m - i))
      (rows (λ k. scope_at W (get_or B (from + m + k) 0)) j (n - j))

pub runs_none : (A : List ℕ) (from to : ℕ) → Runs A A from to
runs_none A from to = record { size = refl; below = λ i h. refl; above = λ i h g. refl }

pub merging_start : (W B : List ℕ) (before : Scope → Scope → Bool) (from m n : ℕ)
    → Merging W before (merge_by before (entries_at W B spare_room m) (entries_at W B (from + m) n)) B B from m n 0 0
unfolding rows
merging_start W B before from m n =
    record {
      first = omega arith;
      second = omega arith;
      frame = runs_none B from (from + m + n);
      left = ap₂ (merge_by before) (rows_whole (λ r. r) _ m) (rows_whole (λ r. r) _ n);
    }

pub runs_set : (A B : List ℕ) (from to i v : ℕ) → Runs A B from to → from ≤ i → i < to → Runs A (set B i v) from to
runs_set A B from to i v r p q =
    record {
      size = length-set B i v ∙ r.size;
      below = λ k h. get_or-set_other B i k v 0 (λ e. omega arith) ∙ r.below k h;
      above = λ k h g. get_or-set_other B i k v 0 (λ e. omega arith) ∙ r.above k h g;
    }

module _ (W : List ℕ) (before : Scope → Scope → Bool) (whole : List Scope) (A B : List ℕ) (from m n i j : ℕ) (size : length B ≡ 16384)
    (fits : from + m + n ≤ heads_room) (some : i < m) (g : Merging W before whole A B from m n i j)
  where
    abbrev pub firsts : List ℕ → ℕ → Scope
    firsts X k = scope_at W (get_or X (spare_room + k) 0)

    abbrev pub seconds : List ℕ → ℕ → Scope
    seconds X k = scope_at W (get_or X (from + m + k) 0)

    abbrev pub stored : ℕ → List ℕ
    stored v = set B (from + i + j) v

    put : (v : ℕ) → entries_at W (stored v) from (i + j + 1) ≡ entries_at W B from (i + j) ++ (scope_at W v ∷ [])
    put v =
        let s = g.second in
        rows_put _ _ (i + j) (scope_at W v)
        (λ k h. ap (scope_at W) (get_or-set_other B (from + i + j) (from + k) v 0 (λ e. omega arith)))
        (let e : from + (i + j) ≡ from + i + j = omega arith in
        ap (λ x. scope_at W (get_or (stored v) x 0)) e ∙ ap (scope_at W) (get_or-set_same B (from + i + j) v 0 (omega arith)))

    firsts_stay : (v k c : ℕ) → rows (firsts B) k c ≡ rows (firsts (stored v)) k c
    firsts_stay v k c = let s = g.second in rows_from _ _ k c
        (λ q p u. ap (scope_at W) (sym (get_or-set_other B (from + i + j) (spare_room + q) v 0 (λ e. omega arith))))

    seconds_stay : (v k c : ℕ) → j ≤ k → rows (seconds B) k c ≡ rows (seconds (stored v)) k c
    seconds_stay v k c h = rows_from _ _ k c (λ q p u. ap (scope_at W)
        (sym (get_or-set_other B (from + i + j) (from + m + q) v 0 (λ e. omega arith))))

    extend : (v : ℕ) (rest : List Scope) (more : ℕ) → more ≡ i + j + 1 → whole ≡ entries_at W B from (i + j) ++ (scope_at W v ∷ rest)
        → whole ≡ entries_at W (stored v) from more ++ rest
    extend v rest more q e =
        e ∙ sym (append_assoc (entries_at W B from (i + j)) (scope_at W v ∷ []) rest) ∙ ap (λ r. r ++ rest) (sym (put v))
        ∙ ap (λ x. entries_at W (stored v) from x ++ rest) (sym q)

    merging_second : (v : ℕ) → j < n → before (seconds B j) (firsts B i) ≡ true → v ≡ get_or B (from + m + j) 0
        → Merging W before whole A (set B (from + i + j) v) from m n i (j + 1)
    merging_second v h t e =
        record {
          first = g.first;
          second = omega arith;
          frame = runs_set A B from (from + m + n) (from + i + j) v g.frame (omega arith) (omega arith);
          left =
              extend v _ (i + (j + 1)) (omega arith)
              (g.left ∙ ap (λ r. entries_at W B from (i + j) ++ r)
              (ap₂ (merge_by before) (rows_next (firsts B) i m some) (rows_next (seconds B) j n h)
              ∙ merge_second before (firsts B i) (seconds B j) (rows (firsts B) (i + 1) (m - (i + 1))) (rows (seconds B) (j + 1) (n - (j + 1))) t
              ∙ ap₂ (λ x r. scope_at W x ∷ r) (sym e)
              (ap₂ (merge_by before) (sym (rows_next (firsts B) i m some) ∙ firsts_stay v i (m - i))
              (seconds_stay v (j + 1) (n - (j + 1)) (omega arith)))));
        }

    merging_first : (v : ℕ) → (ltb j n && before (seconds B j) (firsts B i)) ≡ false → v ≡ get_or B (spare_room + i) 0
        → Merging W before whole A (set B (from + i + j) v) from m n (i + 1) j
    merging_first v t e =
        let s = g.second in
        record {
          first = omega arith;
          second = g.second;
          frame = runs_set A B from (from + m + n) (from + i + j) v g.frame (omega arith) (omega arith);
          left =
              extend v _ (i + 1 + j) (omega arith)
              (g.left ∙ ap (λ r. entries_at W B from (i + j) ++ r)
              (ap (λ r. merge_by before r (rows (seconds B) j (n - j))) (rows_next (firsts B) i m some)
              ∙ taken
              ∙ ap₂ (λ x r. scope_at W x ∷ r) (sym e)
              (ap₂ (merge_by before) (firsts_stay v (i + 1) (m - (i + 1))) (seconds_stay v j (n - j) (omega arith)))));
        }
      where
        rest : List Scope
        rest = rows (firsts B) (i + 1) (m - (i + 1))

        unlike : (b : Bool) → ltb j n ≡ true → (ltb j n && b) ≡ false → b ≡ false
        unlike b p q = sym (ap (λ x. x && b) p) ∙ q

        taken : merge_by before (firsts B i ∷ rest) (rows (seconds B) j (n - j)) ≡ firsts B i ∷ merge_by before rest (rows (seconds B) j (n - j))
        taken =
            by_test (ltb j n)
            (λ p.
            let h = ltb-true j n p in
            ap (merge_by before (firsts B i ∷ rest)) (rows_next (seconds B) j n h)
            ∙ merge_first before (firsts B i) (seconds B j) rest (rows (seconds B) (j + 1) (n - (j + 1)))
            (unlike (before (seconds B j) (firsts B i)) p t)
            ∙ ap (λ r. firsts B i ∷ merge_by before rest r) (sym (rows_next (seconds B) j n h)))
            (λ p.
            let h = ltb-false j n p in
            ap (merge_by before (firsts B i ∷ rest)) (rows_none (seconds B) j n h) ∙ merge_none before (firsts B i ∷ rest)
            ∙ ap (λ r. firsts B i ∷ r) (sym (merge_none before rest)) ∙ ap (λ r. firsts B i ∷ merge_by before rest r)
            (sym (rows_none (seconds B) j n h)))

    -- as the code tests it, by the order of the area as it is
    module _ (order : Scope → Scope → Bool) (same : order ≡ before) {r : Bool}
        (e : r ≡ (ltb (from + m + j) (from + m + n) && order (seconds B j) (firsts B i))) where
      shorter : ltb (from + m + j) (from + m + n) ≡ ltb j n
      shorter = by_test (ltb j n) (λ t. let h = ltb-true j n t in lt-ltb (from + m + j) (from + m + n) (omega arith) ∙ sym t)
          (λ t. let h = ltb-false j n t in le-ltb (from + m + j) (from + m + n) (omega arith) ∙ sym t)

      test : r ≡ (ltb j n && before (seconds B j) (firsts B i))
      test = e ∙ ap₂ (λ a b. a && b (seconds B j) (firsts B i)) shorter same

      pub merging_yes : r ≡ true → (v : ℕ) → v ≡ get_or B (from + m + j) 0 → Merging W before whole A (set B (from + i + j) v) from m n i (j + 1)
      merging_yes t v u =
          by_test (ltb j n)
          (λ h. merging_second v (ltb-true j n h) (sym (ap (λ x. x && before (seconds B j) (firsts B i)) h) ∙ sym test ∙ t) u)
          (λ h. absurd (true≢false (sym t ∙ test ∙ ap (λ x. x && before (seconds B j) (firsts B i)) h)))

      pub merging_no : r ≡ false → (v : ℕ) → v ≡ get_or B (spare_room + i) 0 → Merging W before whole A (set B (from + i + j) v) from m n (i + 1) j
      merging_no t v u = merging_first v (sym test ∙ t) u

merging_done : (W : List ℕ) (before : Scope → Scope → Bool) (whole : List Scope) (A B : List ℕ) (from m n i j : ℕ) → m ≤ i
    → Merging W before whole A B from m n i j → entries_at W B from (m + n) ≡ whole
unfolding merge_by
merging_done W before whole A B from m n i j h g =
    let p = g.first in
    let q = g.second in
    let e : i ≡ m = omega arith in
    let u : m + n ≡ i + j + (n - j) = omega arith in
    sym (g.left ∙ ap (λ r. entries_at W B from (i + j) ++ merge_by before r (rows (λ k. scope_at W (get_or B (from + m + k) 0)) j (n - j)))
    (rows_none (λ k. scope_at W (get_or B (spare_room + k) 0)) i m h)
    ∙ ap (λ r. entries_at W B from (i + j) ++ r)
    (rows_shift (λ k. scope_at W (get_or B (from + m + k) 0)) j (n - j)
    ∙ rows_ext _ _ (n - j) (λ k r. let z : from + m + (j + k) ≡ from + (i + j + k) = omega arith in ap (λ x. scope_at W (get_or B x 0)) z))
    ∙ sym (rows_parts (λ k. scope_at W (get_or B (from + k) 0)) (i + j) (n - j)) ∙ ap (entries_at W B from) (sym u))

-- the words of the tables stay
module _ {W A B : List ℕ} {l : Layout} (r : Ready W A l) where
  module _ {from to : ℕ} (f : Runs A B from to) (high : entries_room ≤ from) where
    pub runs_ready : Ready W B l
    runs_ready = record { reads = reads_stay W A B l r.reads (λ i u v. f.below i (omega arith)); size = f.size ∙ r.size }

    pub runs_order : order_of W B l ≡ order_of W A l
    runs_order = ap entry_before (snap_stays W A B l r.reads.tables (λ i u v. f.below i (omega arith)))

  module _ {from n : ℕ} (c : Copied A B from n) where
    pub copied_ready : Ready W B l
    copied_ready = record { reads = reads_stay W A B l r.reads (λ i u v. c.below i (omega arith)); size = c.size ∙ r.size }

    copied_order : order_of W B l ≡ order_of W A l
    copied_order = ap entry_before (snap_stays W A B l r.reads.tables (λ i u v. c.below i (omega arith)))

-- the whole of a merge, from the area before the copy
pub merged : {W A B C : List ℕ} {l : Layout} {from m n i j : ℕ} → Ready W A l → from + m + n ≤ heads_room → m ≤ i → Copied A B from m
    → Merging W (order_of W B l) (merge_by (order_of W B l) (entries_at W B spare_room m) (entries_at W B (from + m) n)) B C from m n i j
    → Merges W A l C from m n
merged {W} {A} {B} {C} {l} {from} {m} {n} {i} {j} r fits h c g =
    record {
      frame =
          record {
            size = g.frame.size ∙ c.size;
            below = λ k p. g.frame.below k p ∙ c.below k (omega arith);
            above = λ k p q. g.frame.above k p q ∙ c.below k q;
          };
      same =
          merging_done W (order_of W B l) (merge_by (order_of W B l) (entries_at W B spare_room m) (entries_at W B (from + m) n)) B C from m n i j h g
          ∙ ap₂ (merge_by (order_of W B l)) (rows_ext _ _ m (λ k p. ap (scope_at W) (c.there k p)))
          (rows_ext _ _ n (λ k p. ap (scope_at W) (c.below (from + m + k) (omega arith))))
          ∙ ap (λ b. merge_by b (entries_at W A from m) (entries_at W A (from + m) n)) (copied_order r c);
    }

-- sorting

few : (n : ℕ) → n < 2 → (W A : List ℕ) (before : Scope → Scope → Bool) (from : ℕ)
    → entries_at W A from n ≡ sort_into before [] (entries_at W A from n)
unfolding rows sort_into insert_by
few zero h W A before from = refl
few (suc zero) h W A before from = refl
few (suc (suc n)) h W A before from = absurd (omega arith)

pub sorts_few : (W A : List ℕ) (l : Layout) (from n : ℕ) → n < 2 → Sorts W A l A from n
sorts_few W A l from n h = record { frame = runs_none A from (from + n); same = few n h W A (order_of W A l) from }

-- a first run sorted, then a second, then both merged
pub sorts_halves : {W A B C D : List ℕ} {l : Layout} {from m n : ℕ} (total : ℕ) → Ready W A l → entries_room ≤ from → from + m + n ≤ heads_room
    → m + n ≡ total
    → Sorts W A l B from m → Sorts W B l C (from + m) n → Merges W C l D from m n → Sorts W A l D from total
sorts_halves {W} {A} {B} {C} {D} {l} {from} {m} {n} total r high fits q s₁ s₂ g =
    let f₁ = s₁.frame in
    let f₂ = s₂.frame in
    let f₃ = g.frame in
    let o₁ = runs_order r f₁ high in
    let o₂ = runs_order (runs_ready r f₁ high) f₂ (omega arith) in
    let before = order_of W A l in
    record {
      frame =
          record {
            size = f₃.size ∙ f₂.size ∙ f₁.size;
            below = λ i h. f₃.below i h ∙ f₂.below i (omega arith) ∙ f₁.below i h;
            above = λ i h k. f₃.above i (omega arith) k ∙ f₂.above i (omega arith) k ∙ f₁.above i (omega arith) k;
          };
      same =
          ap (entries_at W D from) (sym q) ∙ g.same
          ∙ ap (λ b. merge_by b (entries_at W C from m) (entries_at W C (from + m) n)) (o₂ ∙ o₁)
          ∙ ap₂ (merge_by before)
          (rows_ext _ _ m (λ k h. ap (scope_at W) (f₂.below (from + k) (omega arith))) ∙ s₁.same)
          (s₂.same ∙ ap (λ b. sort_into b [] (entries_at W B (from + m) n)) o₁
          ∙ ap (sort_into before []) (rows_ext _ _ n (λ k h. ap (scope_at W) (f₁.above (from + m + k) (omega arith) (omega arith)))))
          ∙ sorted_merge before (entry_order _) (entries_at W A from m) (entries_at W A (from + m) n)
          ∙ ap (sort_into before [])
          (sym (rows_parts (λ k. scope_at W (get_or A (from + k) 0)) m n
          ∙ ap (λ x. entries_at W A from m ++ x)
          (rows_ext _ _ n (λ k h. let z : from + (m + k) ≡ from + m + k = omega arith in ap (λ x. scope_at W (get_or A x 0)) z))))
          ∙ ap (λ x. sort_into before [] (entries_at W A from x)) q;
    }
