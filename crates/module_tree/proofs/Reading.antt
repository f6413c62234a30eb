-- What the tables say of the modules of an accepted snapshot.
use Rattle.std.specs.Prelude.{Option, None, Some, MatchOption}
use Rattle.snapshot.specs.Ids.{plus_one}
use Rattle.snapshot.specs.declared.ids.ModuleId.{ModuleId}
use Prim.Native.Nat.{ℕ, zero, suc, ◌+◌, ◌-◌, ◌*◌, ◌≤◌, ◌<◌}
use mathlib.Core.Path.{◌≡◌, refl, sym, ◌∙◌, ap, subst}
use mathlib.Core.List.{List, [], ◌∷◌}
use mathlib.Core.Bool.{Bool, true, false}
use native.Mathlib.Omega.{arith}
use lib.ListN.{length}
use lib.Dec.{eqb}
use borrow.Author.Tests.{eqb-true, eqb-false}
use Rattle.snapshot.specs.Lists.{rows}
use Rattle.snapshot.specs.Sizes.{crate_size}
use Rattle.snapshot.specs.Records.{Map, crate_at, map_at}
use Rattle.snapshot.specs.Layouts.{crate_base, module_map, module_head, module_parent, map_root, own_map, module_row, maps_of, snap_of}
use Rattle.snapshot.specs.declared.layout.Layout.{Layout}
use Rattle.snapshot.proofs.Laws.{get_d_rows, length_rows}
use Rattle.check_rules.specs.Tests.{is_own}
use Rattle.check_records.specs.record_rules.Stands.{own_from}
use Rattle.accept.specs.Post.{Tables, Reads}
use Rattle.accept.proofs.Valid.{accepted_valid}
use Rattle.module_tree.proofs.Roots.{crate_known}
use Rattle.module_tree.specs.rules.Modules.{place_of}
use Rattle.module_tree.specs.rules.Modules.{module_of, map_of, map_no, crate_of, parent_of, block_of, root_of, own_map as own_of, or_else}

module _ (W A : List ℕ) (l : Layout) (t : Tables W A l) where
  module_read : (m : ℕ) → m < l.modules → module_row A m ≡ module_of (snap_of W A l) m
  unfolding module_of
  module_read m h = sym (get_d_rows (module_row A) (record { map = 0; parent = 0 }) l.modules m h)

  pub map_read : (m : ℕ) → m < l.modules → module_map A m ≡ map_no (snap_of W A l) m
  map_read m h = ap (λ r. r.map) (module_read m h)

  pub parent_read : (m : ℕ) → m < l.modules → module_parent A m ≡ parent_of (snap_of W A l) m
  parent_read m h = ap (λ r. r.parent) (module_read m h)

  record_read_lem : (m : ℕ) → m < l.modules → map_at W (module_head A m) ≡ map_of (snap_of W A l) (map_no (snap_of W A l) m)
  unfolding map_of
  record_read_lem m h = sym (t.mapped m h) ∙ ap (λ k. map_of (snap_of W A l) k) (map_read m h)

  pub crate_read : (m : ℕ) → m < l.modules → (map_at W (module_head A m)).crate ≡ crate_of (snap_of W A l) m
  crate_read m h = ap (λ r. r.crate) (record_read_lem m h)

  pub block_read : (m : ℕ) → m < l.modules → (map_at W (module_head A m)).block ≡ block_of (snap_of W A l) m
  block_read m h = ap (λ r. r.block) (record_read_lem m h)

  pub no_std_read : (m : ℕ) → m < l.modules → (map_at W (module_head A m)).no_std ≡ (map_of (snap_of W A l) (map_no (snap_of W A l) m)).no_std
  no_std_read m h = ap (λ r. r.no_std) (record_read_lem m h)

  -- the first place of a map's modules is the one that the table has
  root_from : (k i n : ℕ) → i ≤ map_root A k → map_root A k < i + n → module_map A (map_root A k) ≡ k → ((j : ℕ) → j < i + n
      → module_map A j ≡ k → map_root A k ≤ j)
      → map_root A k ≡ place_of (λ x. eqb x.map k) i (rows (module_row A) i n)
  unfolding place_of rows
  root_from k i zero p q e f = absurd (omega arith)
  root_from k i (suc n) p q e f =
      by (eqb (module_map A i) k) refl
      (λ r. root_from k (i + 1) n r (omega arith) e (λ j u v. f j (omega arith) v))
    where
      by : (b : Bool) → eqb (module_map A i) k ≡ b → (i + 1 ≤ map_root A k → map_root A k ≡ place_of (λ x. eqb x.map k) (i + 1)
          (rows (module_row A) (i + 1) n))
          → map_root A k ≡ elim b [ true ↦ i | false ↦ place_of (λ x. eqb x.map k) (i + 1) (rows (module_row A) (i + 1) n) ]
      by true g r = let u = f i (omega arith) (eqb-true _ _ g) in omega arith
      by false g r =
          let u : (map_root A k ≡ i → ⊥) = λ z. eqb-false _ _ g (ap (module_map A) (sym z) ∙ e) in
          r (omega arith)

  pub root_read : (k : ℕ) → k < l.maps → map_root A k ≡ root_of (snap_of W A l) k
  unfolding root_of
  root_read k h =
      let r = t.rooted k h in
      root_from k 0 l.modules (omega arith) (omega arith) (t.inside k h)
      (λ j p e. subst (λ x. map_root A x ≤ j) e (t.first j (omega arith)))

pub containing_parent : (p b : ℕ) → (p ≡ 0 → ⊥) → p ≡ or_else p b
unfolding or_else
containing_parent zero b h = absurd (h refl)
containing_parent (suc p) b h = refl

pub containing_block : (p b : ℕ) → p ≡ 0 → b ≡ or_else p b
unfolding or_else
containing_block zero b h = refl
containing_block (suc p) b h = absurd (omega arith)

-- a number, or another's
pub or_another : {p : ℕ} (b : ℕ) (o r : Option ModuleId) {Q : Type 0} → plus_one o ≡ p → MatchOption o Q (λ x. r ≡ Some x)
    → (Q → plus_one r ≡ b) → plus_one r ≡ or_else p b
unfolding plus_one or_else
or_another b None r e h k = rw (← e) (k h)
or_another b (Some m) r e h k = rw (h, ← e) (containing_parent (m.0 + 1) b (omega arith))

pub length_modules : (W A : List ℕ) (l : Layout) → length (snap_of W A l).modules ≡ l.modules
length_modules W A l = length_rows (module_row A) l.modules

-- the number of a crate's own map is its place
place_own : (c k : ℕ) (ms : List Map) → 0 < own_from c k ms
    → (own_from c k ms ≡ place_of (is_own c) k ms + 1) × (place_of (is_own c) k ms < k + length ms)
unfolding own_from place_of
place_own c k [] h = absurd (omega arith)
place_own c k (y ∷ ys) h = by (is_own c y) h (λ g. place_own c (k + 1) ys g)
  where
    by : (b : Bool) → 0 < elim b [ true ↦ k + 1 | false ↦ own_from c (k + 1) ys ]
        → (0 < own_from c (k + 1) ys → (own_from c (k + 1) ys ≡ place_of (is_own c) (k + 1) ys + 1)
        × (place_of (is_own c) (k + 1) ys < k + 1 + length ys))
        → (◌≡◌ {A = ℕ} (elim b [ true ↦ k + 1 | false ↦ own_from c (k + 1) ys ]) (elim b [ true ↦ k | false ↦ place_of (is_own c) (k + 1) ys ] + 1))
        × (elim b [ true ↦ k | false ↦ place_of (is_own c) (k + 1) ys ] < k + suc (length ys))
    by true g r = (refl, omega arith)
    by false g r = let x = r g in let y = x.1 in (x.0, omega arith)

pub own_read : (W A : List ℕ) (l : Layout) → Tables W A l → (c : ℕ) → c < l.crates
    → (own_map A c - 1 ≡ own_of (snap_of W A l) c) × (own_map A c - 1 < l.maps)
unfolding own_of
own_read W A l t c h =
    let e = t.own c h in
    let o = t.owned c h in
    let p = place_own c 0 (maps_of W A l.maps) (omega arith) in
    let q = p.0 in
    let r = p.1 in
    let n = length_rows (λ k. map_at W (module_head A (map_root A k))) l.maps in
    (omega arith, omega arith)

pub length_crates : (W A : List ℕ) (l : Layout) → length (snap_of W A l).crates ≡ l.crates
length_crates W A l = length_rows (λ k. crate_at W (crate_base l + crate_size * k)) l.crates

-- the crate of a module is there
pub crate_there : (W A : List ℕ) (l : Layout) → Reads W A l → (m : ℕ) → m < l.modules → crate_of (snap_of W A l) m < l.crates
crate_there W A l r m h =
    let g : m < length (snap_of W A l).modules = rw (length_modules W A l) h in
    rw (length_crates W A l) at (crate_known (snap_of W A l) (accepted_valid W (snap_of W A l) r.same) m g)
