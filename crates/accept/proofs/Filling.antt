-- The table of the maps' roots, filled from the last module to the first.
use Prim.Native.Nat.{ℕ, ◌+◌, ◌-◌, ◌*◌, ◌≤◌, ◌<◌}
use mathlib.Core.Path.{◌≡◌, refl, sym, ◌∙◌, ap}
use mathlib.Core.List.{List}
use mathlib.Core.Bool.{Bool, true, false}
use native.Mathlib.Omega.{arith}
use lib.ListN.{length, get_or, set, take, length-set}
use lib.Seq.{get_or-set_same, get_or-set_other, get_or-take}
use lib.Dec.{eqb}
use borrow.Author.Tests.{eqb-true, eqb-false}
use Rattle.snapshot.specs.Limits.{module_limit, area_limit}
use Rattle.snapshot.specs.Layouts.{module_map, map_root, own_map, module_table, root_table, crate_table, row_words}
use Rattle.check_records.specs.record_rules.Stands.{Rooted}

-- the modules from m on have their maps' first modules from m on in the table
pub record Filled (A₀ A : List ℕ) (n m : ℕ) : Type 0 where
  pub long : length A ≡ length A₀
  pub upto : m ≤ n
  pub names : (i : ℕ) → i < root_table → get_or A i 0 ≡ get_or A₀ i 0
  pub crates : (c : ℕ) → own_map A c ≡ own_map A₀ c
  pub below : (i : ℕ) → m ≤ i → i < n → map_root A (module_map A₀ i) < n
  pub inside : (i : ℕ) → m ≤ i → i < n → module_map A₀ (map_root A (module_map A₀ i)) ≡ module_map A₀ i
  pub first : (i : ℕ) → m ≤ i → i < n → map_root A (module_map A₀ i) ≤ i

pub filled_none : (A : List ℕ) (n : ℕ) → Filled A A n n
filled_none A n =
    record {
      long = refl;
      upto = omega arith;
      names = λ i h. refl;
      crates = λ c. refl;
      below = λ i h k. absurd (omega arith);
      inside = λ i h k. absurd (omega arith);
      first = λ i h k. absurd (omega arith);
    }

-- one module more
module _ (A₀ A : List ℕ) (n m : ℕ) {k : ℕ} (f : Filled A₀ A n m) (h : 0 < m) (few : n ≤ module_limit) (large : area_limit ≤ length A₀)
    (small : (i : ℕ) → i < n → module_map A₀ i < module_limit)
    (ek : k ≡ module_map A (m - 1))
  where
    filled_map : k ≡ module_map A₀ (m - 1)
    filled_map = let u = f.upto in ek ∙ f.names (module_table + 3 * (m - 1)) (omega arith)

    pub filled_small : k < module_limit
    filled_small = let u = f.upto in let e = filled_map in let s = small (m - 1) (omega arith) in omega arith

    -- of module i: the module that is written where it is of the same map, else what stood there
    filled_at : (i : ℕ) → m - 1 ≤ i → i < n → (b : Bool) → eqb (module_map A₀ i) k ≡ b
        → (map_root (set A (root_table + k) (m - 1)) (module_map A₀ i) < n)
        × (module_map A₀ (map_root (set A (root_table + k) (m - 1)) (module_map A₀ i)) ≡ module_map A₀ i)
        × (map_root (set A (root_table + k) (m - 1)) (module_map A₀ i) ≤ i)
    filled_at i p q true e =
        let u = f.upto in
        let g : module_map A₀ i ≡ k = eqb-true _ _ e in
        let s = filled_small in
        let l = f.long in
        let r : map_root (set A (root_table + k) (m - 1)) (module_map A₀ i) ≡ m - 1 =
        ap (λ x. get_or (set A (root_table + k) (m - 1)) (root_table + x) 0) g ∙ get_or-set_same A (root_table + k) (m - 1) 0 (omega arith) in
        (omega arith, ap (module_map A₀) r ∙ sym filled_map ∙ sym g, omega arith)
    filled_at i p q false e =
        let g : (module_map A₀ i ≡ k → ⊥) = eqb-false _ _ e in
        let w : (i ≡ m - 1 → ⊥) = λ x. g (ap (module_map A₀) x ∙ sym filled_map) in
        let r : map_root (set A (root_table + k) (m - 1)) (module_map A₀ i) ≡ map_root A (module_map A₀ i) =
        get_or-set_other A (root_table + k) (root_table + module_map A₀ i) (m - 1) 0 (λ x. g (let y : module_map A₀ i ≡ k = omega arith in y)) in
        let x = f.below i (omega arith) q in
        let z = f.first i (omega arith) q in
        (omega arith, ap (module_map A₀) r ∙ f.inside i (omega arith) q, omega arith)

    pub filled_more : Filled A₀ (set A (root_table + k) (m - 1)) n (m - 1)
    filled_more =
        let s = filled_small in
        let u = f.upto in
        record {
          long = length-set A (root_table + k) (m - 1) ∙ f.long;
          upto = omega arith;
          names = λ i p. get_or-set_other A (root_table + k) i (m - 1) 0 (omega arith) ∙ f.names i p;
          crates = λ c. get_or-set_other A (root_table + k) (crate_table + c) (m - 1) 0 (omega arith) ∙ f.crates c;
          below = λ i p q. (filled_at i p q (eqb (module_map A₀ i) k) refl).0;
          inside = λ i p q. (filled_at i p q (eqb (module_map A₀ i) k) refl).1;
          first = λ i p q. (filled_at i p q (eqb (module_map A₀ i) k) refl).2;
        }

pub filled_all : (A₀ A : List ℕ) (n m : ℕ) → Filled A₀ A n m → m ≤ 0 → Rooted A₀ A n
filled_all A₀ A n m f h =
    record {
      names = f.names;
      crates = λ c h. f.crates c;
      below = λ i p. f.below i (omega arith) p;
      inside = λ i p. f.inside i (omega arith) p;
      first = λ i p. f.first i (omega arith) p;
    }

-- what is written after the rows leaves them
pub rooted_later : (A B C : List ℕ) (n : ℕ) → n ≤ module_limit → ((m : ℕ) → m < n → module_map A m < module_limit) → Rooted A B n
    → take row_words C ≡ take row_words B → Rooted A C n
rooted_later A B C n few small r e =
    let kept : (i : ℕ) → i < row_words → get_or C i 0 ≡ get_or B i 0 =
    λ i h. sym (get_or-take row_words C i 0 h) ∙ ap (λ (x : List ℕ). get_or x i 0) e ∙ get_or-take row_words B i 0 h in
    let same : (m : ℕ) → m < n → map_root C (module_map A m) ≡ map_root B (module_map A m) =
    λ m h. kept (root_table + module_map A m) (let q = small m h in omega arith) in
    record {
      names = λ i h. kept i (omega arith) ∙ r.names i h;
      crates = λ c h. kept (crate_table + c) (omega arith) ∙ r.crates c h;
      below = λ m h. rw (same m h) (r.below m h);
      inside = λ m h. ap (module_map A) (same m h) ∙ r.inside m h;
      first = λ m h. rw (same m h) (r.first m h);
    }
