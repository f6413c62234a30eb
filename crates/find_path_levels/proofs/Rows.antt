-- Runs of words.
use Prim.Native.Nat.{ℕ, zero, suc, ◌+◌, ◌-◌, ◌≤◌, ◌<◌}
use mathlib.Core.Path.{◌≡◌, refl, sym, ◌∙◌, ap}
use mathlib.Core.List.{List, [], ◌∷◌, ◌++◌}
use mathlib.Core.Bool.{Bool, true, false, ◌||◌, false≢true}
use native.Mathlib.Omega.{arith}
use lib.Dec.{eqb}
use lib.ListN.{length, get_or, set, take}
use borrow.Author.Tests.{eq-eqb, ne_eqb, eqb-true, eqb-false}
use Rattle.snapshot.specs.Limits.{module_limit}
use Rattle.accept.proofs.Accepted.{by_test}
use lib.Seq.{get_or-set_same, get_or-set_other, get_or-take, take-take}
use Rattle.snapshot.specs.Lists.{rows, any}
use Rattle.snapshot.proofs.Laws.{rows_ext, rows_put, rows_whole, any_hit, any_miss, any_none}
use Rattle.find_path_spec.specs.Walk.{has}
use Rattle.find_path_levels.specs.Levels.{run_at, Placed}

pub run_none : (A : List ℕ) (top : ℕ) → run_at A top 0 ≡ []
unfolding rows
run_none A top = refl

-- one word more of a run
pub run_put : (A : List ℕ) (top n v : ℕ) → top + n < length A → run_at (set A (top + n) v) top (n + 1) ≡ run_at A top n ++ (v ∷ [])
run_put A top n v h =
    rows_put (λ i. get_or A (top + i) 0) (λ i. get_or (set A (top + n) v) (top + i) 0) n v
    (λ k p. get_or-set_other A (top + n) (top + k) v 0 (λ q. omega arith)) (get_or-set_same A (top + n) v 0 h)

-- a store outside a run
pub run_other : (A : List ℕ) (top n i v : ℕ) → i < top → run_at (set A i v) top n ≡ run_at A top n
run_other A top n i v h =
    rows_ext (λ j. get_or (set A i v) (top + j) 0) (λ j. get_or A (top + j) 0) n (λ j p. get_or-set_other A i (top + j) v 0 (λ q. omega arith))

rows_take : {A : Type 0} (f : ℕ → A) (j k n : ℕ) → j ≤ n → take j (rows f k n) ≡ rows f k j
unfolding rows
rows_take f zero k n h = refl
rows_take f (suc j) k zero h = absurd (omega arith)
rows_take f (suc j) k (suc n) h = ap (λ l. f k ∷ l) (rows_take f j (k + 1) n (omega arith))

-- the front of a run
pub run_take : (A : List ℕ) (top n k : ℕ) → k ≤ n → take k (run_at A top n) ≡ run_at A top k
run_take A top n k h = rows_take (λ i. get_or A (top + i) 0) k 0 n h

pub take_less : (A B : List ℕ) (a b : ℕ) → a ≤ b → take b A ≡ take b B → take a A ≡ take a B
take_less A B a b h e = sym (take-take a b A h) ∙ ap (take a) e ∙ take-take a b B h

-- Two areas that agree below top have the same words and runs there.
module _ (A B : List ℕ) (top : ℕ) (same : take top A ≡ take top B) where
  pub agree : (i : ℕ) → i < top → get_or A i 0 ≡ get_or B i 0
  agree i h = sym (get_or-take top A i 0 h) ∙ ap (λ (l : List ℕ). get_or l i 0) same ∙ get_or-take top B i 0 h

  pub run_same : (p n : ℕ) → p + n ≤ top → run_at A p n ≡ run_at B p n
  run_same p n h = rows_ext _ _ n (λ i k. agree (p + i) (omega arith))

or_second : (a b : Bool) → b ≡ true → (a || b) ≡ true
or_second true b e = refl
or_second false b e = e

-- what a run has, and where
row_has : (f : ℕ → ℕ) (m k n i : ℕ) → i < n → f (k + i) ≡ m → any (eqb m) (rows f k n) ≡ true
unfolding any rows
row_has f m k zero i h e = absurd (omega arith)
row_has f m k (suc n) zero h e =
    let q : k + 0 ≡ k = omega arith in
    ap (λ b. b || any (eqb m) (rows f (k + 1) n)) (eq-eqb m (f k) (sym e ∙ ap f q))
row_has f m k (suc n) (suc i) h e =
    let q : k + suc i ≡ k + 1 + i = omega arith in
    or_second (eqb m (f k)) _ (row_has f m (k + 1) n i (omega arith) (ap f (sym q) ∙ e))

has_row : (f : ℕ → ℕ) (m k n : ℕ) → any (eqb m) (rows f k n) ≡ true → (i : ℕ) × (i < n) × (f (k + i) ≡ m)
unfolding any rows
has_row f m k zero e = absurd (false≢true e)
has_row f m k (suc n) e =
    by_test (eqb m (f k))
    (λ t. let q : k + 0 ≡ k = omega arith in (0, omega arith, ap f q ∙ sym (eqb-true m (f k) t)))
    (λ t.
    let (i, h, g) = has_row f m (k + 1) n (sym (ap (λ b. b || any (eqb m) (rows f (k + 1) n)) t) ∙ e) in
    let q : k + suc i ≡ k + 1 + i = omega arith in
    (suc i, omega arith, ap f q ∙ g))

pub run_has : (A : List ℕ) (top n i : ℕ) {m : ℕ} → i < n → get_or A (top + i) 0 ≡ m → has (run_at A top n) m ≡ true
unfolding has
run_has A top n i {m} h e = row_has (λ j. get_or A (top + j) 0) m 0 n i h (let q : 0 + i ≡ i = omega arith in ap (λ j. get_or A (top + j) 0) q ∙ e)

has_run : (A : List ℕ) (top n m : ℕ) → has (run_at A top n) m ≡ true → (i : ℕ) × (i < n) × (get_or A (top + i) 0 ≡ m)
unfolding has
has_run A top n m h =
    let (i, o, e) = has_row (λ j. get_or A (top + j) 0) m 0 n h in
    let q : i ≡ 0 + i = omega arith in
    (i, o, ap (λ j. get_or A (top + j) 0) q ∙ e)

-- a module of a run is found by its place
module _ (A : List ℕ) (top n m : ℕ) (p : Placed A top n) {k : ℕ} (q : k ≡ get_or A (top + module_limit + m) 0) where
  at_place : has (run_at A top n) m ≡ true → (k < n) × (get_or A (top + k) 0 ≡ m)
  at_place h =
      let (i, o, e) = has_run A top n m h in
      let z : k ≡ i = q ∙ ap (λ j. get_or A (top + module_limit + j) 0) (sym e) ∙ p i o in
      (omega arith, ap (λ j. get_or A (top + j) 0) z ∙ e)

  pub place_past : n ≤ k → false ≡ has (run_at A top n) m
  place_past h = by_test (has (run_at A top n) m) (λ t. let a = at_place t in absurd (omega (arith, a.0))) (λ t. sym t)

  pub place_found : {w : ℕ} → k < n → w ≡ get_or A (top + k) 0 → eqb w m ≡ has (run_at A top n) m
  place_found {w} h e =
      by_test (eqb w m) (λ t. t ∙ sym (run_has A top n k h (sym e ∙ eqb-true w m t)))
      (λ t.
      t ∙ by_test (has (run_at A top n) m) (λ s. let a = at_place s in absurd (eqb-false w m t (e ∙ a.1))) (λ s. sym s))

-- the search for a module in a run
module _ (A : List ℕ) (from n m : ℕ) where
  pub has_start : has (run_at A from n) m ≡ any (eqb m) (rows (λ k. get_or A (from + k) 0) 0 (n - 0))
  unfolding has
  has_start = rows_whole (any (eqb m)) (λ k. get_or A (from + k) 0) n

  module _ (i : ℕ) (e : has (run_at A from n) m ≡ any (eqb m) (rows (λ k. get_or A (from + k) 0) i (n - i))) where
    pub has_hit : {w : ℕ} → i < n → w ≡ get_or A (from + i) 0 → m ≡ w → true ≡ has (run_at A from n) m
    has_hit h p q = any_hit (eqb m) (λ k. get_or A (from + k) 0) (has (run_at A from n) m) i n e h (eq-eqb m (get_or A (from + i) 0) (q ∙ p))

    pub has_miss : {w : ℕ} → i < n → w ≡ get_or A (from + i) 0 → (m ≡ w → ⊥)
        → has (run_at A from n) m ≡ any (eqb m) (rows (λ k. get_or A (from + k) 0) (i + 1) (n - (i + 1)))
    has_miss h p q =
        any_miss (eqb m) (λ k. get_or A (from + k) 0) (has (run_at A from n) m) i n e h (ne_eqb m (get_or A (from + i) 0) (λ z. q (z ∙ sym p)))

    pub has_end : n ≤ i → false ≡ has (run_at A from n) m
    has_end h = any_none (eqb m) (λ k. get_or A (from + k) 0) (has (run_at A from n) m) i n e h
