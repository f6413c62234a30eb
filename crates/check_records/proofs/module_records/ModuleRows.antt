-- The step of a module.
use Prim.Native.Nat.{ℕ, zero, suc, ◌+◌, ◌-◌, ◌*◌, ◌≤◌, ◌<◌}
use mathlib.Core.Path.{◌≡◌, refl, sym, ◌∙◌, ap}
use mathlib.Core.Logic.{◌≢◌}
use mathlib.Core.List.{List}
use mathlib.Core.Bool.{Bool, true, false, ◌&&◌, ◌||◌, not}
use native.Mathlib.Omega.{arith}
use native.Mathlib.Nat.{le_refl}
use lib.Dec.{eqb, leb, ltb}
use lib.ListN.{length, get_or, set, length-set}
use lib.Seq.{get_or-set_same, get_or-set_other}
use borrow.Author.Count.{below_more}
use borrow.Author.Tests.{ltb-true, leb-true, eqb-true}
use Rattle.snapshot.specs.Lists.{any}
use Rattle.snapshot.specs.Limits.{module_limit, area_limit}
use Rattle.snapshot.specs.Sizes.{module_size}
use Rattle.snapshot.specs.Records.{Map, Module, Snapshot, map_at, module_at}
use Rattle.snapshot.specs.Layouts.{module_map, module_head, module_parent, module_row, modules_of, snap_with, module_table, crate_table}
use Rattle.snapshot.specs.declared.layout.Layout.{Layout}
use Rattle.snapshot.proofs.Laws.{rows_put, length_rows, get_d_rows}
use Rattle.check_rules.specs.Tests.{Counts, counts_of, map_of, no_map, no_module, is_in, module_defined, module_placed}
use Rattle.check_rules.specs.Steps.{no, module_step, add_module}
use Rattle.check_records.specs.record_rules.Stands.{number_of, counts_in, Stands, Answered}
use Rattle.std.specs.Prelude.{Ok}
use Rattle.check_records.proofs.record_rules.Judged.{Judged, judged, judged_no, judged_on, judged_passes, counts_same, and_left, and_right}
use Rattle.check_records.proofs.record_rules.Indexed.{Kept}
use Rattle.check_records.proofs.record_rules.Grows.{one_more, lists_grown, stands_grown, indexes_grown, names_kept, heads_kept}

-- a row of the table, written
abbrev row_set : List ℕ → ℕ → ℕ → ℕ → ℕ → List ℕ
row_set A m x y z = set (set (set A (module_table + 3 * m) x) (module_table + 3 * m + 1) y) (module_table + 3 * m + 2) z

module _ (A : List ℕ) (m x y z : ℕ) where
  row_other : (i : ℕ) → i ≢ module_table + 3 * m → i ≢ module_table + 3 * m + 1 → i ≢ module_table + 3 * m + 2
      → get_or (row_set A m x y z) i 0 ≡ get_or A i 0
  row_other i p q r = get_or-set_other (set (set A (module_table + 3 * m) x) (module_table + 3 * m + 1) y) (module_table + 3 * m + 2) i z 0 r
      ∙ get_or-set_other (set A (module_table + 3 * m) x) (module_table + 3 * m + 1) i y 0 q ∙ get_or-set_other A (module_table + 3 * m) i x 0 p

  row_map : module_table + 3 * m + 2 < length A → module_map (row_set A m x y z) m ≡ x
  row_map h = get_or-set_other (set (set A (module_table + 3 * m) x) (module_table + 3 * m + 1) y) (module_table + 3 * m + 2)
      (module_table + 3 * m) z 0 (omega arith) ∙ get_or-set_other (set A (module_table + 3 * m) x) (module_table + 3 * m + 1)
      (module_table + 3 * m) y 0 (omega arith) ∙ get_or-set_same A (module_table + 3 * m) x 0 (omega arith)

  row_head : module_table + 3 * m + 2 < length A → module_head (row_set A m x y z) m ≡ y
  row_head h =
      get_or-set_other (set (set A (module_table + 3 * m) x) (module_table + 3 * m + 1) y) (module_table + 3 * m + 2)
      (module_table + 3 * m + 1) z 0 (omega arith)
      ∙ get_or-set_same (set A (module_table + 3 * m) x) (module_table + 3 * m + 1) y 0 (simp length-set (omega arith))

  row_parent : module_table + 3 * m + 2 < length A → module_parent (row_set A m x y z) m ≡ z
  row_parent h = get_or-set_same (set (set A (module_table + 3 * m) x) (module_table + 3 * m + 1) y) (module_table + 3 * m + 2) z 0
      (simp length-set (omega arith))

module_parent_lem : (n : Counts) (x : Module) → module_defined n x ≡ true → x.parent ≤ n.modules
module_parent_lem n x h = leb-true _ _ (and_right (ltb x.map n.maps) (leb x.parent n.modules) h)

latest_map : (s : Snapshot) (x : Module) → module_placed s x ≡ true → x.map + 1 ≡ length s.maps
latest_map s x h =
    let p = eqb (x.map + 1) (length s.maps) in
    let q = any (is_in x.map) s.modules || eqb x.parent 0 in
    let r = not (any (is_in x.map) s.modules) || not (eqb x.parent 0) in
    let t = eqb x.parent 0 || eqb (map_of s (x.parent - 1)) x.map in
    eqb-true _ _ (and_left p q (and_left (p && q) r (and_left (p && q && r) t h)))

module _ (W A : List ℕ) (at : ℕ) (l : Layout) (ms : List Map) (st : Stands W A 5 at l ms) (room : l.modules < module_limit)
    (large : area_limit ≤ length A)
    {x y z : ℕ} (ex : x ≡ (module_at W at).map) (ey : y ≡ l.latest) (ez : z ≡ (module_at W at).parent)
  where
    fits_row : module_table + 3 * l.modules + 2 < length A
    fits_row = omega arith

    old_map : (k : ℕ) → k < l.modules → module_map (row_set A l.modules x y z) k ≡ module_map A k
    old_map k h = row_other A l.modules x y z (module_table + 3 * k) (omega arith) (omega arith) (omega arith)

    old_head : (k : ℕ) → k < l.modules → module_head (row_set A l.modules x y z) k ≡ module_head A k
    old_head k h = row_other A l.modules x y z (module_table + 3 * k + 1) (omega arith) (omega arith) (omega arith)

    old_row : (k : ℕ) → k < l.modules → module_row (row_set A l.modules x y z) k ≡ module_row A k
    old_row k h =
        let p = old_map k h in
        let q = row_other A l.modules x y z (module_table + 3 * k + 2) (omega arith) (omega arith) (omega arith) in
        λ i. record { map = p i; parent = q i }

    new_row : module_row (row_set A l.modules x y z) l.modules ≡ module_at W at
    new_row =
        let p = row_map A l.modules x y z fits_row ∙ ex in
        let q = row_parent A l.modules x y z fits_row ∙ ez in
        λ i. record { map = p i; parent = q i }

    names_stay : Kept A (row_set A l.modules x y z) 0 module_table
    names_stay i p q = row_other A l.modules x y z i (omega arith) (omega arith) (omega arith)

    module_added : snap_with W (row_set A l.modules x y z) (one_more 5 l) ms ≡ add_module (snap_with W A l ms) (module_at W at)
    module_added =
        lists_grown W A (row_set A l.modules x y z) 5 at l.text l.latest l ms st (λ h. refl)
        (names_kept W A (row_set A l.modules x y z) l.names st.limited.names names_stay) refl
        (rows_put (module_row A) _ l.modules (module_at W at) old_row new_row)

    module _ (last : (module_at W at).map + 1 ≡ l.maps) where
      new_map : module_map (row_set A l.modules x y z) l.modules ≡ l.maps - 1
      new_map = let p = row_map A l.modules x y z fits_row ∙ ex in omega arith

      module_stands : at + module_size ≤ length W → Stands W (row_set A l.modules x y z) 5 (at + module_size) (one_more 5 l) ms
      module_stands fits =
          stands_grown W A (row_set A l.modules x y z) 5 at l.text l.latest l ms st (λ h. refl) (let q = st.place in omega arith) fits
          (record { names = st.limited.names; crates = st.limited.crates; modules = omega arith; definitions = st.limited.definitions })
          (record {
            heads = heads_kept W A (row_set A l.modules x y z) l.names st.limited.names names_stay st.heads;
            count = st.count;
            last = st.latest;
            below = below_more (λ m. module_map (row_set A l.modules x y z) m < l.maps) l.modules
                (λ m h. rw (old_map m h) (st.below m h)) (let p = new_map in omega arith);
            rising = λ i j h k. rises j k i h;
            inside =
                below_more (λ m. get_or ms (module_map (row_set A l.modules x y z) m) no_map ≡ map_at W (module_head (row_set A l.modules x y z) m))
                l.modules
                (λ m h. ap (λ k. get_or ms k no_map) (old_map m h) ∙ st.inside m h ∙ ap (map_at W) (sym (old_head m h)))
                (ap (λ k. get_or ms k no_map) new_map ∙ st.latest (omega arith) ∙ ap (map_at W) (sym (row_head A l.modules x y z fits_row ∙ ey)));
            own = λ c h.
                (let q = st.limited.crates in
                row_other A l.modules x y z (crate_table + c) (omega arith) (omega arith) (omega arith) ∙ st.own c h);
          })
          (indexes_grown W A (row_set A l.modules x y z) 5 at l.text l.latest l ms st (λ h. refl) names_stay
          (λ i u. row_other A l.modules x y z i (omega arith) (omega arith) (omega arith)) refl refl refl refl refl)
        where
          rises : (j : ℕ) → j < l.modules + 1 → (i : ℕ) → i ≤ j → module_map (row_set A l.modules x y z) i ≤ module_map
              (row_set A l.modules x y z) j
          rises =
              below_more (λ j. (i : ℕ) → i ≤ j → module_map (row_set A l.modules x y z) i ≤ module_map (row_set A l.modules x y z) j) l.modules
              (λ j h i p. (let q = old_map i (omega arith) in let r = old_map j h in let s = st.rising i j p h in omega arith))
              (λ i p.
              below_more (λ k. module_map (row_set A l.modules x y z) k ≤ module_map (row_set A l.modules x y z) l.modules) l.modules
              (λ k h. (let q = old_map k h in let r = st.below k h in let s = new_map in omega arith)) (le_refl _) i (omega arith))

module _ (W A : List ℕ) (at : ℕ) (l : Layout) (ms : List Map) (st : Stands W A 5 at l ms)
    {n : ℕ} {b d e : Bool}
    (j : n ≡ number_of true b false d e)
    (eb : b ≡ module_defined (counts_in l) (module_at W at))
    (ed : d ≡ (eqb ((module_at W at).map + 1) l.maps && (any (is_in (module_at W at).map) (modules_of A l.modules) || eqb
    (module_at W at).parent 0) && (not (any (is_in (module_at W at).map) (modules_of A l.modules)) || not (eqb (module_at W at).parent 0)) &&
    (eqb (module_at W at).parent 0 || eqb (module_map A ((module_at W at).parent - 1)) (module_at W at).map)))
    (ee : e ≡ ltb l.modules module_limit)
  where
    parent_by : (k : ℕ) → k ≤ l.modules → (eqb k 0 || eqb (module_map A (k - 1)) (module_at W at).map)
        ≡ (eqb k 0 || eqb (map_of (snap_with W A l ms) (k - 1)) (module_at W at).map)
    parent_by zero h = refl
    parent_by (suc k) h = ap (λ r. eqb (suc k) 0 || eqb r.map (module_at W at).map)
        (sym (get_d_rows (module_row A) no_module l.modules (suc k - 1) (omega arith)))

    module_places : b ≡ true → d ≡ module_placed (snap_with W A l ms) (module_at W at)
    module_places h =
        ed ∙ ap (λ m. (eqb ((module_at W at).map + 1) m && (any (is_in (module_at W at).map) (modules_of A l.modules) || eqb
        (module_at W at).parent 0) && (not (any (is_in (module_at W at).map) (modules_of A l.modules)) || not (eqb (module_at W at).parent 0))
        && (eqb (module_at W at).parent 0 || eqb (module_map A ((module_at W at).parent - 1)) (module_at W at).map))) (sym st.count)
        ∙ ap (λ q. (eqb ((module_at W at).map + 1) (length ms) && (any (is_in (module_at W at).map) (modules_of A l.modules) || eqb
        (module_at W at).parent 0) && (not (any (is_in (module_at W at).map) (modules_of A l.modules)) || not (eqb (module_at W at).parent 0))
        && q)) (parent_by (module_at W at).parent (module_parent_lem (counts_in l) (module_at W at) (sym eb ∙ h)))

    module_number : Judged n true (module_defined (counts_of (snap_with W A l ms)) (module_at W at)) false
        (module_placed (snap_with W A l ms) (module_at W at)) (ltb (length (modules_of A l.modules)) module_limit)
    module_number =
        judged j refl (eb ∙ ap (λ m. module_defined m (module_at W at)) (counts_same W A 5 at l ms st)) (λ h. refl) module_places
        (ee ∙ ap (λ m. ltb m module_limit) (sym (length_rows _ l.modules)))

    pub module_no_lem : (n ≡ 0 → ⊥) → module_step (snap_with W A l ms) (module_at W at) ≡ no n
    unfolding module_step
    module_no_lem z = judged_no module_number _ z

    module_room : n ≡ 0 → l.modules < module_limit
    module_room z = ltb-true l.modules module_limit (ap (λ m. ltb m module_limit) (sym (length_rows (module_row A) l.modules))
        ∙ (judged_passes module_number z).room)

    module_last : n ≡ 0 → (module_at W at).map + 1 ≡ l.maps
    module_last z = latest_map (snap_with W A l ms) (module_at W at) (judged_passes module_number z).placed ∙ st.count

    pub module_on : {x y w : ℕ} → n ≡ 0 → at + module_size ≤ length W → area_limit ≤ length A → x ≡ (module_at W at).map → y ≡ l.latest
        → w ≡ (module_at W at).parent
        → Answered W (row_set A l.modules x y w) 5 (at + module_size) (module_step (snap_with W A l ms) (module_at W at)) (Ok (one_more 5 l))
    unfolding module_step
    module_on z fits large ex ey ew =
        judged_on module_number z (module_added W A at l ms st (module_room z) large ex ey ew)
        (module_stands W A at l ms st (module_room z) large ex ey ew (module_last z) fits)
