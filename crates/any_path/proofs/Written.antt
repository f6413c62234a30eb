-- One row more.
use Prim.Native.Nat.{ℕ, zero, suc, ◌+◌, ◌-◌, ◌≤◌, ◌<◌}
use mathlib.Core.Path.{◌≡◌, refl, sym, ap, ap₂, ◌∙◌}
use mathlib.Core.List.{List, [], ◌∷◌, ◌++◌}
use mathlib.Core.Bool.{Bool, true, false, or-true}
use native.Mathlib.Omega.{arith}
use borrow.Author.Tests.{eq-eqb, ne_eqb, eqb-true, eqb-false}
use lib.Dec.{eqb}
use lib.ListN.{length, get_or, set, length-set}
use lib.Seq.{get_or-set_same, get_or-set_other}
use Rattle.snapshot.specs.Lists.{rows, any}
use Rattle.snapshot.specs.Limits.{module_limit}
use Rattle.snapshot.proofs.Laws.{rows_put, rows_whole, any_hit, any_miss, any_none}
use Rattle.accept.proofs.Accepted.{by_test}
use Rattle.nameable.specs.Paths.{Path, into}
use Rattle.nameable.specs.Breadth.{Way, is_met}
use Rattle.nameable.proofs.Lists.{passing_few, passing_less}
use Rattle.nameable.proofs.Reached.{way_to, met_snoc, with_old, with_new}
use Rattle.any_path.specs.Rows.{row_at, target_at, link_at, name_at, path_from, path_to, path_at, way_at, run_at, Run, Stays, Offered}

pub from_same : (f g : ℕ → Path) (k n : ℕ) → ((j : ℕ) → k ≡ suc (suc (suc j)) → f j ≡ g j) → path_from f k n ≡ path_from g k n
unfolding path_from
from_same f g zero n h = refl
from_same f g (suc zero) n h = refl
from_same f g (suc (suc zero)) n h = refl
from_same f g (suc (suc (suc j))) n h = ap (λ (p : Path). into p n) (h j refl)

-- Two areas whose first n rows agree, with links to earlier rows.
module _ (A B : List ℕ) (n : ℕ) (linked : (i : ℕ) → i < n → link_at A i < i + 3)
    (links : (i : ℕ) → i < n → link_at B i ≡ link_at A i) (names : (i : ℕ) → i < n → name_at B i ≡ name_at A i) where
  pub path_same : (f g i : ℕ) → i < f → i < g → i < n → path_to f B i ≡ path_to g A i
  unfolding path_to
  path_same zero g i h k r = absurd (omega arith)
  path_same (suc f) zero i h k r = absurd (omega arith)
  path_same (suc f) (suc g) i h k r =
      ap₂ (path_from (path_to f B)) (links i r) (names i r)
      ∙ from_same (path_to f B) (path_to g A) (link_at A i) (name_at A i)
      (λ j e. let l = linked i r in path_same f g j (omega (arith, l, e)) (omega (arith, l, e)) (omega (arith, l, e)))

-- A row is written.
module _ (A : List ℕ) (n t k x p : ℕ) where
  abbrev pub written : List ℕ
  written = set (set (set (set A (row_at n) t) (row_at n + 1) k) (row_at n + 2) x) (row_at n + 3) p

  pub written_length : length written ≡ length A
  written_length = simp length-set

  module _ (space : row_at n + 3 < length A) where
    before_row : (i : ℕ) → i < row_at n → get_or written i 0 ≡ get_or A i 0
    before_row i h =
        get_or-set_other (set (set (set A (row_at n) t) (row_at n + 1) k) (row_at n + 2) x) (row_at n + 3) i p 0 (λ e. omega arith)
        ∙ (get_or-set_other (set (set A (row_at n) t) (row_at n + 1) k) (row_at n + 2) i x 0 (λ e. omega arith)
        ∙ (get_or-set_other (set A (row_at n) t) (row_at n + 1) i k 0 (λ e. omega arith) ∙ get_or-set_other A (row_at n) i t 0 (λ e. omega arith)))

    its_target : target_at written n ≡ t
    its_target =
        get_or-set_other (set (set (set A (row_at n) t) (row_at n + 1) k) (row_at n + 2) x) (row_at n + 3) (row_at n) p 0 (λ e. omega arith)
        ∙ (get_or-set_other (set (set A (row_at n) t) (row_at n + 1) k) (row_at n + 2) (row_at n) x 0 (λ e. omega arith)
        ∙ (get_or-set_other (set A (row_at n) t) (row_at n + 1) (row_at n) k 0 (λ e. omega arith) ∙ get_or-set_same A (row_at n) t 0 (omega arith)))

    its_link : link_at written n ≡ k
    its_link =
        let l = length-set A (row_at n) t in
        get_or-set_other (set (set (set A (row_at n) t) (row_at n + 1) k) (row_at n + 2) x) (row_at n + 3) (row_at n + 1) p 0 (λ e. omega arith)
        ∙ (get_or-set_other (set (set A (row_at n) t) (row_at n + 1) k) (row_at n + 2) (row_at n + 1) x 0 (λ e. omega arith)
        ∙ get_or-set_same (set A (row_at n) t) (row_at n + 1) k 0 (omega (arith, l)))

    its_name : name_at written n ≡ x
    its_name =
        let l = length-set A (row_at n) t in
        let m = length-set (set A (row_at n) t) (row_at n + 1) k in
        get_or-set_other (set (set (set A (row_at n) t) (row_at n + 1) k) (row_at n + 2) x) (row_at n + 3) (row_at n + 2) p 0 (λ e. omega arith)
        ∙ get_or-set_same (set (set A (row_at n) t) (row_at n + 1) k) (row_at n + 2) x 0 (omega (arith, l, m))

    module _ (linked : (i : ℕ) → i < n → link_at A i < i + 3) (link : k < n + 3) where
      same_path : (f g i : ℕ) → i < f → i < g → i < n → path_to f written i ≡ path_to g A i
      same_path = path_same A written n linked (λ i h. before_row (row_at i + 1) (omega arith)) (λ i h. before_row (row_at i + 2) (omega arith))

      new_path : path_at written n ≡ path_from (path_at A) k x
      unfolding path_at path_to
      new_path =
          ap₂ (path_from (path_to n written)) its_link its_name
          ∙ from_same (path_to n written) (path_at A) k x
          (λ j e. same_path n (suc j) j (omega (arith, link, e)) (omega arith) (omega (arith, link, e)))

      old_way : (i : ℕ) → i < n → way_at written i ≡ way_at A i
      unfolding path_at
      old_way i h j = record { path = same_path (suc i) (suc i) i (omega arith) (omega arith) h j; target = before_row (row_at i) (omega arith) j }

      new_way : way_at written n ≡ way_to (path_from (path_at A) k x) t
      new_way j = record { path = new_path j; target = its_target j }

      -- the run has one way more
      pub run_more : run_at written (n + 1) ≡ run_at A n ++ (way_to (path_from (path_at A) k x) t ∷ [])
      unfolding run_at
      run_more = rows_put (way_at A) (way_at written) n (way_to (path_from (path_at A) k x) t) old_way new_way

      still_linked : (i : ℕ) → i < n + 1 → link_at written i < i + 3
      still_linked i h =
          by_test (eqb i n)
          (λ e. let same : i ≡ n = eqb-true i n e in rw same (omega (arith, its_link, link)))
          (λ e.
          let other : i ≡ n → ⊥ = eqb-false i n e in
          let l : i < n = omega (arith, other) in
          omega (arith, before_row (row_at i + 1) (omega arith), linked i l))

      low_words : Stays A written
      low_words i h = before_row i (omega arith)

-- no more rows than modules
pub run_few : (modules : ℕ) (A : List ℕ) (n : ℕ) → Run modules A n → n ≤ modules
run_few modules A n run = omega (arith, run.few, passing_few (is_met (run_at A n)) modules)

pub run_small : (modules : ℕ) (A : List ℕ) (n : ℕ) → Run modules A n → modules ≤ module_limit → n ≤ module_limit
run_small modules A n run few = omega (arith, run_few modules A n run)

-- there is room for one more
module _ {modules : ℕ} {A : List ℕ} {n t : ℕ} (run : Run modules A n) (few : modules ≤ module_limit) (known : t < modules)
    (new : is_met (run_at A n) t ≡ false) where
  pub row_fits : n < modules
  row_fits =
      let a = passing_less (is_met (run_at A n)) (λ m. true) (λ m e. refl) t modules known new refl in
      omega (arith, a, passing_few (λ m. true) modules, run.few)

  pub row_space : row_at n + 3 < length A
  row_space = omega (arith, row_fits, few, run.space)

module _ (modules : ℕ) (A : List ℕ) (n t k x : ℕ) (run : Run modules A n) where
  -- the module has a row
  pub offer_old : is_met (run_at A n) t ≡ true → Offered modules A n t k x A n
  offer_old e =
      record {
        run = run;
        same = sym (with_old (run_at A n) (path_from (path_at A) k x) t e);
        more = omega arith;
        rows = λ i h. refl;
        stays = λ i h. refl;
        size = refl;
      }

  module _ (few : modules ≤ module_limit) (known : t < modules) (link : k < n + 3) (new : is_met (run_at A n) t ≡ false) where
    abbrev space : row_at n + 3 < length A
    space = row_space run few known new

    -- it gets one
    pub offer_new : (p : ℕ) → Offered modules A n t k x (written A n t k x p) (n + 1)
    offer_new p =
        let ws : List Way = run_at A n in
        let q : Path = path_from (path_at A) k x in
        let vs : List Way = ws ++ (way_to q t ∷ []) in
        let whole : run_at (written A n t k x p) (n + 1) ≡ vs = run_more A n t k x p space run.linked link in
        let here : is_met vs t ≡ true = met_snoc ws (way_to q t) t ∙ rw (eq-eqb t t refl) (or-true (is_met ws t)) in
        let one = passing_less (is_met ws) (is_met vs) (λ m h. met_snoc ws (way_to q t) m ∙ rw h) t modules known new here in
        record {
          run = record {
            space = omega (arith, written_length A n t k x p, run.space);
            linked = still_linked A n t k x p space run.linked link;
            few = rw whole (omega (arith, one, run.few));
          };
          same = whole ∙ sym (with_new ws q t new);
          more = omega arith;
          rows = old_way A n t k x p space run.linked link;
          stays = low_words A n t k x p space run.linked link;
          size = written_length A n t k x p;
        }

-- The search for a module's row.
module _ (A : List ℕ) (n m : ℕ) where
  abbrev pub is_row : Way → Bool
  is_row w = eqb w.target m

  pub met_start : is_met (run_at A n) m ≡ any is_row (rows (way_at A) 0 (n - 0))
  unfolding is_met run_at
  met_start = rows_whole (any is_row) (way_at A) n

  module _ (i : ℕ) (e : is_met (run_at A n) m ≡ any is_row (rows (way_at A) i (n - i))) where
    pub met_hit : {w : ℕ} → i < n → w ≡ target_at A i → w ≡ m → true ≡ is_met (run_at A n) m
    met_hit h p q = any_hit is_row (way_at A) (is_met (run_at A n) m) i n e h (eq-eqb (target_at A i) m (sym p ∙ q))

    pub met_miss : {w : ℕ} → i < n → w ≡ target_at A i → (w ≡ m → ⊥) → is_met (run_at A n) m ≡ any is_row (rows (way_at A) (i + 1) (n - (i + 1)))
    met_miss h p q = any_miss is_row (way_at A) (is_met (run_at A n) m) i n e h (ne_eqb (target_at A i) m (λ z. q (p ∙ z)))

    pub met_none : n ≤ i → false ≡ is_met (run_at A n) m
    met_none h = any_none is_row (way_at A) (is_met (run_at A n) m) i n e h
