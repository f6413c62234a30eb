-- Steps after the rows, one row after the other.
use Prim.Native.Nat.{ℕ, suc, ◌+◌, ◌-◌, ◌≤◌, ◌<◌}
use mathlib.Core.Path.{◌≡◌, refl, sym, ap, ap₂, ◌∙◌}
use mathlib.Core.List.{List}
use mathlib.Core.Bool.{true, ◌&&◌}
use Rattle.std.specs.Prelude.{Option, None, Some, option_map}
use native.Mathlib.Omega.{arith}
use borrow.Author.Tests.{eq-eqb, ne_eqb}
use lib.Dec.{eqb}
use lib.ListN.{get_or}
use Rattle.snapshot.specs.Lists.{rows}
use Rattle.snapshot.specs.Records.{Snapshot, Scope, scope_at}
use Rattle.snapshot.specs.Layouts.{snap_of}
use Rattle.snapshot.specs.declared.layout.Layout.{Layout}
use Rattle.snapshot.proofs.Laws.{rows_next, rows_none, rows_whole}
use Rattle.accept.specs.Post.{Reads}
use Rattle.accept.specs.Valid.{Each, Valid}
use Rattle.accept.proofs.Bools.{and_two, each_rows}
use Rattle.accept.proofs.Valid.{accepted_valid}
use Rattle.hir_def.specs.Finds.{first_of, or_first}
use Rattle.hir_def.specs.Items.{types, ns_of, item_of, same_item, module_item}
use Rattle.hir_def.specs.ItemScope.{is_for, names_of}
use Rattle.hir_def.specs.declared.Item.{Item}
use Rattle.hir_def.proofs.Same.{same_item_lem, ns_of_item}
use Rattle.nameable.specs.Seen.{seen}
use Rattle.nameable.specs.Paths.{Path, into, named, is_seen_in, as_named, within, after, reads, means, place_in}
use Rattle.nameable.specs.Breadth.{Way, onward, first_to}
use Rattle.nameable.specs.Queue.{paths_after}
use Rattle.nameable.proofs.Lists.{first_found_lem}
use Rattle.nameable.proofs.Reached.{item_in_lem}
use Rattle.nameable.proofs.Arrives.{or_first_none, or_first_some}
use Rattle.nameable.proofs.Lookups.{seen_named_lem, after_first}
use Rattle.nameable.proofs.Queue.{first_append}
use Rattle.any_path.specs.Rows.{row_at, target_at, link_at, name_at, path_from, path_to, path_at, way_at, run_at, Run, Meant}
use Rattle.any_path.proofs.Written.{from_same, path_same}
use Rattle.any_path.proofs.Taken.{link_into}
use Rattle.told_paths.specs.arrivals.Steps.{way_of, Steps}

-- the path of a row, by its link
pub row_path : (A : List ℕ) (n : ℕ) → ((i : ℕ) → i < n → link_at A i < i + 3) → (i : ℕ) → i < n
    → path_at A i ≡ path_from (path_at A) (link_at A i) (name_at A i)
unfolding path_at path_to
row_path A n linked i h =
    from_same (path_to i A) (path_at A) (link_at A i) (name_at A i)
    (λ j e.
    let l = linked i h in
    path_same A A n linked (λ x y. refl) (λ x y. refl) i (suc j) j (omega (arith, l, e)) (omega arith) (omega (arith, l, e, h)))

-- The search for a module's row.
module _ (A : List ℕ) (n m : ℕ) where
  pub way_start : way_of m (run_at A n) ≡ way_of m (rows (way_at A) 0 (n - 0))
  unfolding run_at
  way_start = rows_whole (way_of m) (way_at A) n

  module _ (i : ℕ) (e : way_of m (run_at A n) ≡ way_of m (rows (way_at A) i (n - i))) where
    way_found : i < n → target_at A i ≡ m → way_of m (run_at A n) ≡ Some (path_at A i)
    unfolding way_of
    way_found h q = e ∙ rw (rows_next (way_at A) i n h, eq-eqb (target_at A i) m q, way_of)

    pub way_hit : {w k x p : ℕ} → i < n → w ≡ target_at A i → w ≡ m → k ≡ link_at A i → x ≡ name_at A i → p ≡ get_or A (row_at i + 3) 0
        → (s : Snapshot) (from modules : ℕ) → Run modules A n → Steps s from types A n (way_of m (run_at A n)) k x p
    way_hit {k = k} {x = x} h et q ek ex ep s from modules run =
        let there : path_at A i ≡ path_from (path_at A) k x =
        row_path A n run.linked i h ∙ ap₂ (path_from (path_at A)) (sym ek) (sym ex) in
        let low = run.linked i h in
        record {
          path = way_found h (sym et ∙ q) ∙ ap Some there;
          linked = omega (arith, low, ek, h);
          place = λ placed. ep ∙ (placed i h ∙ ap (λ (y : Path). place_in (reads s from types y)) there);
        }

    pub way_miss : {w : ℕ} → i < n → w ≡ target_at A i → (w ≡ m → ⊥) → way_of m (run_at A n) ≡ way_of m (rows (way_at A) (i + 1) (n - (i + 1)))
    unfolding way_of
    way_miss h et q = e ∙ rw (rows_next (way_at A) i n h, ne_eqb (target_at A i) m (λ z. q (et ∙ z)), way_of)

    pub way_none : n ≤ i → way_of m (run_at A n) ≡ None
    unfolding way_of
    way_none h = e ∙ rw (rows_none (way_at A) i n h)

-- what one name more after a path is read by
pub into_reads : (s : Snapshot) (from ns n : ℕ) (p : Path) (x : Item) → means s from types p ≡ Some x
    → reads s from ns (into p n) ≡ named n (within s from ns x)
unfolding means reads after
into_reads s from ns n p x e = let f = item_in_lem (reads s from types p) x e in rw (f.1, f.2)

module _ (s : Snapshot) (ok : Valid s) (from : ℕ) (item : Item) (w : Way) (there : Meant s from w) where
  -- the entry found for the item is what its name is read by
  pub found_reads : (e : Scope) → names_of s w.target item (seen s from) ≡ Some e
      → reads s from (ns_of item) (into w.path e.name) ≡ Some (as_named s e)
  unfolding names_of is_for within
  found_reads e h =
      let f = first_found_lem (λ (x : Scope). is_for s w.target item x && seen s from x) s.scopes e h in
      let a = and_two (is_for s w.target item e) (seen s from e) f.1 in
      let b = and_two (eqb e.owner w.target) (same_item (item_of s e.ns e.definition) item) a.0 in
      let same : item_of s e.ns e.definition ≡ item = same_item_lem (item_of s e.ns e.definition) item b.1 in
      let ns : e.ns ≡ ns_of item = sym (ns_of_item s e.ns e.definition) ∙ ap ns_of same in
      let yes : is_seen_in s from (ns_of item) w.target e ≡ true = rw (b.0, eq-eqb e.ns (ns_of item) ns) a.1 in
      into_reads s from (ns_of item) e.name w.path (module_item w.target) there
      ∙ seen_named_lem s from (ns_of item) w.target ok e f.0 yes

module _ (W A : List ℕ) (l : Layout) (r : Reads W A l) (from n : ℕ) (item : Item) where
  abbrev s : Snapshot
  s = snap_of W A l

  abbrev whole : Option Path
  whole = first_to s from item (onward s from (ns_of item) (run_at A n))

  abbrev pub rest : ℕ → Option Path
  rest i = first_to s from item (onward s from (ns_of item) (rows (way_at A) i (n - i)))

  valid : Valid s
  valid = accepted_valid W s r.same

  pub found_start : first_to (snap_of W A l) from item (onward (snap_of W A l) from (ns_of item) (run_at A n)) ≡ rest 0
  unfolding run_at
  found_start = rows_whole (λ (ws : List Way). first_to s from item (onward s from (ns_of item) ws)) (way_at A) n

  module _ (i : ℕ) (e : first_to (snap_of W A l) from item (onward (snap_of W A l) from (ns_of item) (run_at A n)) ≡ rest i) where
    module _ (less : i < n) (meant : Each (Meant (snap_of W A l) from) (run_at A n)) {m : ℕ} (em : m ≡ target_at A i) where
      here : Meant s from (way_at A i)
      unfolding run_at
      here = each_rows {P = Meant s from} (way_at A) n i meant less

      first : Option Scope → Option Path
      first o = option_map (λ (x : Scope). into (path_at A i) x.name) o

      one : whole ≡ or_first (first (names_of s m item (seen s from))) (rest (i + 1))
      unfolding onward first
      one =
          e ∙ (ap (λ (ws : List Way). first_to s from item (onward s from (ns_of item) ws)) (rows_next (way_at A) i n less)
          ∙ (first_append s from item (paths_after s from (ns_of item) (way_at A i))
          (onward s from (ns_of item) (rows (way_at A) (i + 1) (n - (i + 1))))
          ∙ ap (λ (o : Option Path). or_first o (rest (i + 1)))
          (after_first s valid from item (way_at A i) here ∙ ap (λ (t : ℕ). first (names_of s t item (seen s from))) (sym em))))

      pub found_hit : {h k x : ℕ} → Some (scope_at W h) ≡ names_of (snap_of W A l) m item (seen (snap_of W A l) from) → k ≡ i + 3
          → x ≡ (scope_at W h).name → Steps (snap_of W A l) from (ns_of item) A n whole k x h
      unfolding first place_in
      found_hit {h} {k} {x} q ek ex =
          let found : names_of s (target_at A i) item (seen s from) ≡ Some (scope_at W h) =
          ap (λ (t : ℕ). names_of s t item (seen s from)) (sym em) ∙ sym q in
          let there : into (path_at A i) (scope_at W h).name ≡ path_from (path_at A) k x =
          sym (ap₂ (path_from (path_at A)) ek ex ∙ link_into (path_at A) i (scope_at W h).name) in
          record {
            path = one ∙ (or_first_some (first (names_of s m item (seen s from))) (rest (i + 1)) (into (path_at A i) (scope_at W h).name)
                (ap first (sym q))
                ∙ ap Some there);
            linked = omega (arith, ek, less);
            place = λ placed. sym (ap (λ (y : Path). place_in (reads s from (ns_of item) y)) (sym there)
                ∙ ap place_in (found_reads s valid from item (way_at A i) here (scope_at W h) found));
          }

      pub found_miss : None ≡ names_of (snap_of W A l) m item (seen (snap_of W A l) from) → whole ≡ rest (i + 1)
      unfolding first
      found_miss q = one ∙ or_first_none (first (names_of s m item (seen s from))) (rest (i + 1)) (ap first (sym q))

    pub found_none : n ≤ i → whole ≡ None
    unfolding onward first_to first_of
    found_none h = e ∙ ap (λ (ws : List Way). first_to s from item (onward s from (ns_of item) ws)) (rows_none (way_at A) i n h)
