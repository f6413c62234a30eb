-- The steps of maps and modules.
use Prim.Native.Nat.{ℕ, zero, suc, ◌+◌, ◌-◌, ◌*◌, ◌≤◌, ◌<◌}
use mathlib.Core.Path.{◌≡◌, refl, sym, ◌∙◌, ap, subst}
use mathlib.Core.List.{List, [], ◌∷◌, ◌++◌}
use mathlib.Core.Bool.{Bool, true, false, ◌&&◌, ◌||◌, not, and-false}
use native.Mathlib.Omega.{arith}
use lib.Dec.{eqb, leb, ltb}
use lib.ListN.{length, get_or, set, length-append, get_or-append}
use lib.Seq.{get_or-set_same, get_or-set_other, get_or_at}
use borrow.Author.Tests.{ltb-true, leb-true, eqb-true, eqb-false, eq-eqb, ne_eqb, not-false}
use Rattle.snapshot.specs.Lists.{any}
use Rattle.snapshot.specs.Limits.{area_limit}
use Rattle.snapshot.specs.Sizes.{map_size}
use Rattle.snapshot.specs.Records.{Map, map_at}
use Rattle.snapshot.specs.Layouts.{module_map, module_head, own_map, module_row, snap_with, module_table, crate_table}
use Rattle.snapshot.specs.declared.layout.Layout.{Layout}
use Rattle.snapshot.proofs.Laws.{get_d_rows}
use Rattle.check_rules.specs.Tests.{Counts, counts_of, crate_of, no_map, no_module, is_own, map_range, map_defined, map_repeated, map_placed}
use Rattle.check_rules.specs.Steps.{no, map_step, add_map}
use Rattle.check_records.specs.record_rules.Stands.{number_of, counts_in, own_from, own_of, Stands, Answered}
use Rattle.std.specs.Prelude.{Ok}
use Rattle.check_records.proofs.record_rules.Judged.{Judged, judged, judged_no, judged_on, judged_passes, passes, counts_same, and_left, and_right}
use Rattle.check_records.proofs.record_rules.Indexed.{Kept, Above, set_kept, set_above}
use Rattle.check_records.proofs.record_rules.Grows.{grown, lists_grown, stands_grown, indexes_grown, names_kept, modules_kept, heads_kept}

-- the own map of a crate, with one map more

own_later : (c k : ℕ) (ms : List Map) (x : Map) → is_own c x ≡ false → own_from c k (ms ++ (x ∷ [])) ≡ own_from c k ms
unfolding own_from
own_later c k [] x h = rw (own_from, h)
own_later c k (y ∷ ys) x h = ap (λ t. elim (is_own c y) [ true ↦ k + 1 | false ↦ t ]) (own_later c (k + 1) ys x h)

own_first : (c k : ℕ) (ms : List Map) (x : Map) → own_from c k ms ≡ 0 → is_own c x ≡ true → own_from c k (ms ++ (x ∷ [])) ≡ k + length ms + 1
unfolding own_from
own_first c k [] x h g = rw (own_from, g) (omega arith)
own_first c k (y ∷ ys) x h g = by (is_own c y) h (λ e. own_first c (k + 1) ys x e g)
  where
    by : (b : Bool) → ◌≡◌ {A = ℕ} (elim b [ true ↦ k + 1 | false ↦ own_from c (k + 1) ys ]) 0
        → (own_from c (k + 1) ys ≡ 0 → own_from c (k + 1) (ys ++ (x ∷ [])) ≡ k + 1 + length ys + 1)
        → ◌≡◌ {A = ℕ} (elim b [ true ↦ k + 1 | false ↦ own_from c (k + 1) (ys ++ (x ∷ [])) ]) (k + suc (length ys) + 1)
    by true e f = absurd (omega arith)
    by false e f = f e ∙ omega arith

-- some map is the crate's own exactly where there is a number
pub own_any : (c k : ℕ) (ms : List Map) → not (eqb (own_from c k ms) 0) ≡ any (is_own c) ms
unfolding own_from any
own_any c k [] = refl
own_any c k (y ∷ ys) = by (is_own c y) (own_any c (k + 1) ys)
  where
    by : (b : Bool) → not (eqb (own_from c (k + 1) ys) 0) ≡ any (is_own c) ys
        → not (eqb (elim b [ true ↦ k + 1 | false ↦ own_from c (k + 1) ys ]) 0) ≡ (b || any (is_own c) ys)
    by true f = ap not (ne_eqb (k + 1) 0 (λ e. omega arith))
    by false f = f

-- maps

abbrev pub map_on : Layout → ℕ → Layout
map_on l at = grown 4 l.text at l

module _ (W A B : List ℕ) (at : ℕ) (l : Layout) (ms : List Map) (st : Stands W A 4 at l ms) (kept : Kept A B 0 crate_table) (above : Above A B) where
  map_added : snap_with W B (map_on l at) (ms ++ (map_at W at ∷ [])) ≡ add_map (snap_with W A l ms) (map_at W at)
  map_added =
      lists_grown W A B 4 at l.text at l ms st (λ h. refl) (names_kept W A B l.names st.limited.names (λ i u v. kept i u (omega arith)))
      refl
      (modules_kept A B l.modules st.limited.modules (λ i u v. kept i (omega arith) (omega arith)))

  map_of_lem : (m : ℕ) → m < l.modules → module_map B m ≡ module_map A m
  map_of_lem m h = let r = st.limited.modules in kept (module_table + 3 * m) (omega arith) (omega arith)

  map_stands : at + map_size ≤ length W → ((c : ℕ) → c < l.crates → own_map B c ≡ own_of c (ms ++ (map_at W at ∷ [])))
      → Stands W B 4 (at + map_size) (map_on l at) (ms ++ (map_at W at ∷ []))
  map_stands fits own =
      let q-count = st.count in
      stands_grown W A B 4 at l.text at l ms st (λ h. refl) (let q = st.place in omega arith) fits
      (record { names = st.limited.names; crates = st.limited.crates; modules = st.limited.modules; definitions = st.limited.definitions })
      (record {
        heads = heads_kept W A B l.names st.limited.names (λ i u v. kept i u (omega arith)) st.heads;
        count = length-append ms (map_at W at ∷ []) ∙ ap (λ n. n + 1) st.count;
        last = λ h. get_or_at ms (map_at W at) [] no_map (l.maps + 1 - 1) (omega arith);
        below = λ m h. (let q = map_of_lem m h in let r = st.below m h in omega arith);
        rising = λ i j h k. (let p = map_of_lem i (omega arith) in let q = map_of_lem j k in let r = st.rising i j h k in omega arith);
        inside = λ m h.
            (let r = st.below m h in
            let u = st.limited.modules in
            ap (λ k. get_or (ms ++ (map_at W at ∷ [])) k no_map) (map_of_lem m h) ∙ get_or-append ms (map_at W at ∷ []) no_map (module_map A m)
            (omega arith) ∙ st.inside m h
            ∙ ap (map_at W) (sym (kept (module_table + 3 * m + 1) (omega arith) (omega arith))));
        own = own;
      })
      (indexes_grown W A B 4 at l.text at l ms st (λ h. refl) (λ i u v. kept i u (omega arith)) above refl refl refl refl refl)

pub map_defined_lem : (n : Counts) (x : Map) → map_defined n x ≡ true → (x.crate < n.crates) × (x.block ≤ n.modules)
map_defined_lem n x h =
    let p = ltb x.crate n.crates in
    let q = leb x.block n.modules in
    (ltb-true _ _ (and_left p q h), leb-true _ _ (and_right p q h))

-- a map whose tests pass has a crate
pub map_crate_small : (W : List ℕ) (at : ℕ) (l : Layout) {n : ℕ} (a b c d : Bool) → n ≡ number_of a b c d true
    → n ≡ 0 → b ≡ map_defined (counts_in l) (map_at W at)
    → (map_at W at).crate < l.crates
map_crate_small W at l a b c d j z eb = (map_defined_lem (counts_in l) (map_at W at) (sym eb ∙ (passes a b c d true (sym z ∙ j)).defined)).0

module _ (W A : List ℕ) (at : ℕ) (l : Layout) (ms : List Map) (st : Stands W A 4 at l ms)
    {n : ℕ} {a b c d : Bool}
    (j : n ≡ number_of a b c d true)
    (ea : a ≡ map_range (map_at W at))
    (eb : b ≡ map_defined (counts_in l) (map_at W at))
    (ec : c ≡ (eqb (map_at W at).block 0 && not (eqb (own_map A (map_at W at).crate) 0)))
    (ed : d ≡ (eqb (map_at W at).block 0 || eqb (map_at W (module_head A ((map_at W at).block - 1))).crate (map_at W at).crate))
  where
    map_repeats : b ≡ true → c ≡ map_repeated (snap_with W A l ms) (map_at W at)
    map_repeats h =
        let p = map_defined_lem (counts_in l) (map_at W at) (sym eb ∙ h) in
        ec ∙ ap (λ x. eqb (map_at W at).block 0 && not (eqb x 0)) (st.own (map_at W at).crate p.0)
        ∙ ap (λ x. eqb (map_at W at).block 0 && x) (own_any (map_at W at).crate 0 ms)

    crate_of_lem : (m : ℕ) → m < l.modules → (map_at W (module_head A m)).crate ≡ crate_of (snap_with W A l ms) m
    crate_of_lem m h = ap (λ x. x.crate) (sym (st.inside m h)) ∙ ap (λ r. (get_or ms r.map no_map).crate)
        (sym (get_d_rows (module_row A) no_module l.modules m h))

    place_by : (k : ℕ) → k ≤ l.modules → (eqb k 0 || eqb (map_at W (module_head A (k - 1))).crate (map_at W at).crate)
        ≡ (eqb k 0 || eqb (crate_of (snap_with W A l ms) (k - 1)) (map_at W at).crate)
    place_by zero h = refl
    place_by (suc k) h = ap (λ x. eqb (suc k) 0 || eqb x (map_at W at).crate) (crate_of_lem (suc k - 1) (omega arith))

    map_places : b ≡ true → d ≡ map_placed (snap_with W A l ms) (map_at W at)
    map_places h = ed ∙ place_by (map_at W at).block (map_defined_lem (counts_in l) (map_at W at) (sym eb ∙ h)).1

    map_number : Judged n (map_range (map_at W at)) (map_defined (counts_of (snap_with W A l ms)) (map_at W at))
        (map_repeated (snap_with W A l ms) (map_at W at)) (map_placed (snap_with W A l ms) (map_at W at)) true
    map_number = judged j ea (eb ∙ ap (λ m. map_defined m (map_at W at)) (counts_same W A 4 at l ms st)) map_repeats map_places refl

    pub map_no_lem : (n ≡ 0 → ⊥) → map_step (snap_with W A l ms) (map_at W at) ≡ no n
    unfolding map_step
    map_no_lem z = judged_no map_number _ z

    map_numbers : n ≡ 0 → map_defined (counts_in l) (map_at W at) ≡ true
    map_numbers z = ap (λ m. map_defined m (map_at W at)) (counts_same W A 4 at l ms st) ∙ (judged_passes map_number z).defined

    pub map_crate : n ≡ 0 → (map_at W at).crate < l.crates
    map_crate z = (map_defined_lem (counts_in l) (map_at W at) (map_numbers z)).0

    pub map_on_lem : (B : List ℕ) → n ≡ 0 → at + map_size ≤ length W → Kept A B 0 crate_table → Above A B
        → ((c : ℕ) → c < l.crates → own_map B c ≡ own_of c (ms ++ (map_at W at ∷ [])))
        → Answered W B 4 (at + map_size) (map_step (snap_with W A l ms) (map_at W at)) (Ok (map_on l at))
    unfolding map_step
    map_on_lem B z fits kept above own =
        judged_on map_number z (map_added W A B at l ms st kept above) (map_stands W A B at l ms st kept above fits own)

    -- a block's map: no crate's own map changes
    pub map_on_block : n ≡ 0 → at + map_size ≤ length W → ((map_at W at).block ≡ 0 → ⊥)
        → Answered W A 4 (at + map_size) (map_step (snap_with W A l ms) (map_at W at)) (Ok (map_on l at))
    map_on_block z fits h =
        map_on_lem A z fits (λ i u v. refl) (λ i u. refl)
        (λ k p. st.own k p ∙ sym (own_later k 0 ms (map_at W at) (rw (ne_eqb _ _ h) (and-false (eqb (map_at W at).crate k)))))

    -- a crate's own map
    pub map_on_own : {v i : ℕ} → n ≡ 0 → at + map_size ≤ length W → area_limit ≤ length A → (map_at W at).block ≡ 0 → v ≡ l.maps + 1
        → i ≡ (map_at W at).crate
        → Answered W (set A (crate_table + i) v) 4 (at + map_size) (map_step (snap_with W A l ms) (map_at W at)) (Ok (map_on l at))
    map_on_own {v} {i} z fits large h ev ei =
        map_on_lem (set A (crate_table + i) v) z fits (set_kept A (crate_table + i) v 0 crate_table (λ k p q. omega arith))
        (let c = map_crate z in let w = st.limited.crates in set_above A (crate_table + i) v (omega arith)) owns
      where
        fresh : own_of (map_at W at).crate ms ≡ 0
        fresh =
            let p : (eqb (map_at W at).block 0 && any (is_own (map_at W at).crate) ms) ≡ false = (judged_passes map_number z).fresh in
            let q : any (is_own (map_at W at).crate) ms ≡ false = rw (eq-eqb _ _ h) at p in
            eqb-true _ _ (not-false _ (own_any (map_at W at).crate 0 ms ∙ q))

        own_at : (k : ℕ) → k < l.crates → (t : Bool) → eqb (map_at W at).crate k ≡ t → own_map (set A (crate_table + i) v) k
            ≡ own_of k (ms ++ (map_at W at ∷ []))
        own_at k p true e =
            let f : (map_at W at).crate ≡ k = eqb-true _ _ e in
            let g : is_own k (map_at W at) ≡ true = rw (e, eq-eqb _ _ h) in
            let u : crate_table + k ≡ crate_table + i = ap (λ x. crate_table + x) (sym f ∙ sym ei) in
            let w = st.limited.crates in
            ap (λ x. get_or (set A (crate_table + i) v) x 0) u ∙ get_or-set_same A (crate_table + i) v 0 (omega arith) ∙ ev
            ∙ sym (own_first k 0 ms (map_at W at) (subst (λ x. own_of x ms ≡ 0) f fresh) g ∙ (let y = st.count in omega arith))
        own_at k p false e =
            let f : ((map_at W at).crate ≡ k → ⊥) = eqb-false _ _ e in
            let g : is_own k (map_at W at) ≡ false = rw e in
            get_or-set_other A (crate_table + i) (crate_table + k) v 0 (λ u. f (sym ei ∙ sym (let q : k ≡ i = omega arith in q)))
            ∙ st.own k p ∙ sym (own_later k 0 ms (map_at W at) g)

        owns : (k : ℕ) → k < l.crates → own_map (set A (crate_table + i) v) k ≡ own_of k (ms ++ (map_at W at ∷ []))
        owns k p = own_at k p (eqb (map_at W at).crate k) refl
