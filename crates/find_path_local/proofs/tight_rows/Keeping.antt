-- The laws of rows.
use Prim.Native.Nat.{ℕ, suc, ◌+◌, ◌-◌, ◌*◌, ◌/◌, ◌%◌, ◌≤◌, ◌<◌}
use mathlib.Core.Path.{◌≡◌, refl, sym, ap, ap₂, subst, ◌∙◌}
use mathlib.Core.List.{List, [], ◌++◌}
use mathlib.Core.Bool.{Bool, true, false}
use mathlib.Core.Logic.{⊎_elim}
use Rattle.std.specs.Prelude.{Option, Some}
use native.Mathlib.Omega.{arith}
use borrow.Rule.Slice.PartMut.{put_mid}
use Rattle.std.proofs.lemmas.Slice.{take-put_mid_below}
use lib.Dec.{eqb}
use lib.ListN.{length, get_or, set, take, drop, replicate, length-replicate, get_or-append, get_or-replicate}
use lib.Seq.{get_or-set_same, get_or-set_other, take-set-le, get_or-append-add, length-take-le}
use borrow.Author.Tests.{eq-eqb, ne_eqb, eqb-true, eqb-false}
use Rattle.snapshot.specs.Limits.{word_limit, area_limit}
use Rattle.snapshot.specs.Records.{Snapshot, Scope, scope_at}
use Rattle.snapshot.specs.Layouts.{table_words, snap_of}
use Rattle.snapshot.specs.declared.layout.Layout.{Layout}
use Rattle.accept.specs.Post.{Reads}
use Rattle.check_records.specs.record_rules.Stands.{counts_in}
use Rattle.accept.specs.Valid.{Each, ScopeFits, Ranges}
use Rattle.accept.proofs.Bools.{each_rows}
use Rattle.accept.proofs.Reading.{ranges_read}
use Rattle.accept.proofs.Valid.{accepted_valid}
use Rattle.hir_def.specs.Items.{module_item}
use Rattle.find_path_choice.specs.Choices.{Choice}
use Rattle.find_path_choice.specs.declared.Choice.{Choice as Path}
use Rattle.find_path_choice.specs.Given.{chosen, given}
use Rattle.find_path_spec.specs.declared.FindPathCtx.{FindPathCtx}
use Rattle.find_path_choice.specs.Choices.{via_local, step_by, push, extended}
use Rattle.find_path_spec.specs.Walk.{has}
use Rattle.find_path_spec.specs.Local.{importable_name}
use Rattle.find_path_spec.specs.Search.{search_local}
use Rattle.find_path_spec.proofs.laws.Bounds.{Fits, search_local_fits}
use Rattle.find_path_spec.proofs.laws.Tables.{same_snap}
use Rattle.find_path_spec.specs.laws.Near.{ruled, locations, imports, near}
use Rattle.find_path_spec.proofs.laws.Fewer.{tested, refuted}
use Rattle.find_path_spec.proofs.laws.Near.{unfound_nothing}
use Rattle.find_path_spec.proofs.laws.Kept.{Made, made}
use Rattle.find_path_local.specs.distances.Distances.{distance, distances_end}
use Rattle.find_path_levels.proofs.Rows.{agree, take_less}
use Rattle.find_path_local.proofs.distances.Lowering.{rows_each}
use Rattle.find_path_local.proofs.distances.Near.{some_is, import_for}
use Rattle.find_path_local.specs.near.Numbers.{failures_at}
use Rattle.find_path_local.specs.tight_rows.Post.{Cleared}
use Rattle.find_path_local.specs.tight_rows.Rows.{rows_at, row_at, flag_number, last_place, row_if, row_of, row_place}
use Rattle.find_path_local.specs.tight_rows.Rows.{row_flag, flagged, Entered, Row, Rows}

-- the number of a row gives its place and its flag back
module _ (h : ℕ) where
  row_least : (b : Bool) → 2 ≤ row_if true h b
  unfolding row_if flag_number
  row_least true = omega arith
  row_least false = omega arith

  place_back : (b : Bool) → row_place (row_if true h b) ≡ h
  unfolding row_if flag_number
  place_back true = omega arith
  place_back false = omega arith

  flag_back : (b : Bool) → row_flag (row_if true h b) ≡ b
  unfolding row_if flag_number
  flag_back true = eq-eqb ((2 * h + 2 + 1) % 2) 1 (omega arith)
  flag_back false = ne_eqb ((2 * h + 2 + 0) % 2) 1 (λ q. omega arith)

-- the row of a choice, for the code
module _ (c : Choice) where
  pub row_none : c.found ≡ false → 1 ≡ row_of c
  unfolding row_if
  row_none e = sym (ap (λ b. row_if b (last_place c) c.has_prelude_segment) e)

  pub row_flag_lem : {w : ℕ} → c.found ≡ true → w ≡ last_place c → c.has_prelude_segment ≡ true → 2 * w + 2 + 1 ≡ row_of c
  unfolding row_if flag_number
  row_flag_lem {w} e q t = ap (λ z. 2 * z + 2 + 1) q ∙ sym (ap (λ b. row_if b (last_place c) c.has_prelude_segment) e
      ∙ ap (λ b. row_if true (last_place c) b) t)

  pub row_plain : {w : ℕ} → c.found ≡ true → w ≡ last_place c → c.has_prelude_segment ≡ false → 2 * w + 2 ≡ row_of c
  unfolding row_if flag_number
  row_plain {w} e q t =
      (let z : 2 * w + 2 ≡ 2 * last_place c + 2 + 0 = omega arith in z)
      ∙ sym (ap (λ b. row_if b (last_place c) c.has_prelude_segment) e ∙ ap (λ b. row_if true (last_place c) b) t)

-- what is asked of a path that has a row
abbrev Placed : Choice → Type 0
Placed c = (0 < c.steps) × (c.steps ≤ 17) × (last_place c < word_limit)

pub placed_some : (o : Option Path) {d : Path} → o ≡ Some d → ((given o).found ≡ true → Placed (given o)) → Placed (chosen d)
placed_some o e f = subst (λ o. (given o).found ≡ true → Placed (given o)) e f refl

-- the last step of a choice that was extended by an entry
last_place_lem : (s : Snapshot) (c : Choice) (n h : ℕ) (b : Bool) → length c.route ≡ 17 → c.steps < 17
    → last_place (extended s c n (step_by via_local h) b) ≡ h
unfolding extended
last_place_lem s c n h b w o =
    let q : c.steps + 1 - 1 ≡ c.steps = omega arith in
    let g : (h * 8 + 6) / 8 ≡ h = omega arith in
    ap (λ z. get_or (set c.route c.steps (h * 8 + 6)) z 0 / 8) q
    ∙ ap (λ z. z / 8) (get_or-set_same c.route c.steps (h * 8 + 6) 0 (omega (arith, w))) ∙ g

-- a choice as a row gives it back

by_row : (s : Snapshot) (c : Choice) (n via : ℕ) (b : Bool) → flagged (push s c n via) b ≡ extended s c n via b
unfolding flagged push extended
by_row s c n via b = refl

-- the same, in the code's numbers

pub row_entry : (W : List ℕ) (l : Layout) {h p n : ℕ} → h ≡ p → n ≡ (scope_at W h).name → ScopeFits (counts_in l) (scope_at W p) → n < l.names
row_entry W l {h} {p} {n} e q f = omega (arith, q ∙ ap (λ z. (scope_at W z).name) e, f.name)

pub row_choice : (s : Snapshot) (W : List ℕ) (c : Choice) (w : ℕ) {h n via : ℕ} {d r : Choice} → h ≡ row_place w
    → n ≡ (scope_at W h).name → via ≡ step_by via_local h → d ≡ push s c n via → r ≡ flagged d (row_flag w)
    → r ≡ extended s c (scope_at W (row_place w)).name (step_by via_local (row_place w)) (row_flag w)
row_choice s W c w {h} {n} {via} eh en ev ed er =
    er ∙ ap (λ z. flagged z (row_flag w)) ed ∙ by_row s c n via (row_flag w)
    ∙ ap₂ (λ n via. extended s c n via (row_flag w)) (en ∙ ap (λ z. (scope_at W z).name) eh) (ev ∙ ap (step_by via_local) eh)

module _ (W A : List ℕ) (l : Layout) (r : Reads W A l) (x : FindPathCtx) where
  abbrev S : Snapshot
  S = snap_of W A l

  -- an entry in range that stands at its place
  abbrev Held : Scope → Type 0
  Held e = ScopeFits (counts_in l) e × (scope_at W e.place ≡ e)

  ranges : Ranges (counts_in l) S
  ranges = ranges_read W A l (accepted_valid W S r.same)

  held : Each Held S.scopes
  held = rows_each _ l.scopes (λ i q. (each_rows _ l.scopes i ranges.scopes q, refl))

  -- a module that another can be imported from is there
  pub imports_known : (m c : ℕ) → imports S x m c ≡ true → c < l.modules
  unfolding imports
  imports_known m c h =
      let (e, k) = some_is (importable_name S x (module_item m) c) h in
      let f = import_for S x Held held c m e k in
      let o = f.0.0.owner in
      subst (λ z. z < l.modules) f.1 o

  module _ (j m : ℕ) (d : Made S x j m (search_local S x (suc j) [] m)) where
    entered : Entered l S x (suc j) m d.entry d.flag
    entered =
        let f = import_for S x Held held d.from m d.entry d.named in
        let o : d.from ≡ d.entry.owner = sym f.1 in
        let q : j ≡ suc j - 1 = omega arith in
        record {
          fits = f.0.0;
          taken = subst (λ z. has (locations S x [] m) z ≡ true) o d.at.taken;
          entry = subst (λ z. imports S x m z ≡ true) o d.at.entry;
          found = subst (λ z. (search_local S x z [] d.entry.owner).found ≡ true) q
              (subst (λ z. (search_local S x j [] z).found ≡ true) o d.found);
          same =
              d.same
              ∙ ap (λ z. extended S (search_local S x j [] z) d.entry.name (step_by via_local d.entry.place) d.flag) o
              ∙ ap (λ z. extended S (search_local S x z [] d.entry.owner) d.entry.name (step_by via_local d.entry.place) d.flag) q;
        }

    standing : scope_at W d.entry.place ≡ d.entry
    standing = (import_for S x Held held d.from m d.entry d.named).0.1

    fitting : Fits S j (search_local S x j [] d.from)
    fitting = search_local_fits S x j [] d.from

    module _ {c : Choice} (e : c ≡ search_local S x (suc j) [] m) (few : j < 16) where
      last_made : last_place c ≡ d.entry.place
      last_made =
          ap (λ (z : Choice). last_place z) (e ∙ d.same)
          ∙ last_place_lem S (search_local S x j [] d.from) d.entry.name d.entry.place d.flag fitting.wide
          (omega (arith, fitting.once, fitting.few))

      flag_made : c.has_prelude_segment ≡ d.flag
      unfolding extended
      flag_made = ap (λ (z : Choice). z.has_prelude_segment) (e ∙ d.same)

      steps_made : c.steps ≡ (search_local S x j [] d.from).steps + 1
      unfolding extended
      steps_made = ap (λ (z : Choice). z.steps) (e ∙ d.same)

      asked_made : (0 < c.steps) × (c.steps ≤ 17) × (last_place c < word_limit)
      asked_made = (
        omega (arith, steps_made),
        omega (arith, steps_made, fitting.once, fitting.few),
        omega (arith, last_made, entered.fits.place),
      )

      row_made : c.found ≡ true → Row W l S x (suc j) m (row_of c)
      row_made f =
          let h = d.entry.place in
          let w : row_of c ≡ row_if true h d.flag = λ i. row_if (f i) (last_made i) (flag_made i) in
          let p : scope_at W (row_place (row_of c)) ≡ d.entry = ap (λ z. scope_at W (row_place z)) w ∙ ap (λ z. scope_at W z) (place_back h d.flag)
          ∙ standing in
          let b : row_flag (row_of c) ≡ d.flag = ap row_flag w ∙ flag_back h d.flag in
          record {
            nowhere = λ z. absurd (omega (arith, row_least h d.flag, w, z));
            somewhere = λ _.
                subst (λ (z : Bool). Entered l S x (suc j) m (scope_at W (row_place (row_of c))) z) (sym b)
                (subst (λ (z : Scope). Entered l S x (suc j) m z d.flag) (sym p) entered);
          }

  -- the answer with no levels for a module that is not nearer and that no rule answers for
  module _ (j k m : ℕ) (q : k ≡ suc j) (low : (i : ℕ) → near S x [] i m ≡ true → k ≤ i) (u : ruled S x m ≡ false) {c : Choice}
      (e : c ≡ search_local S x k [] m) (few : k ≤ 16) where
    at_next : c ≡ search_local S x (suc j) [] m
    at_next = e ∙ ap (λ z. search_local S x z [] m) q

    making : c.found ≡ true → Made S x j m (search_local S x (suc j) [] m)
    making f = made S x j m (refuted _ (λ t. let o = low j t in omega arith)) u (sym (ap (λ (z : Choice). z.found) at_next) ∙ f)

    pub row_asked : c.found ≡ true → (0 < c.steps) × (c.steps ≤ 17) × (last_place c < word_limit)
    row_asked f = asked_made j m (making f) at_next (omega arith)

    pub row_kept : Row W l S x k m (row_of c)
    row_kept =
        ⊎_elim (λ f. subst (λ z. Row W l S x z m (row_of c)) (sym q) (row_made j m (making f) at_next (omega arith) f))
        (λ f. record {
          nowhere = λ _. unfound_nothing S x k [] m (sym (ap (λ (z : Choice). z.found) e) ∙ f);
          somewhere = λ h. absurd (omega (arith, row_none c f, h));
        })
        (tested c.found)

-- rows stay while the tables, the numbers and the rows do
pub rows_at_lem : (W A B : List ℕ) (l : Layout) (x : FindPathCtx) → Reads W A l → Rows W A l x → take distances_end B ≡ take distances_end A
    → ((i : ℕ) → rows_at ≤ i → get_or B i 0 ≡ get_or A i 0) → Rows W B l x
rows_at_lem W A B l x r v e f m h =
    let sn : snap_of W A l ≡ snap_of W B l = sym (same_snap W A B l (take_less B A table_words distances_end (omega arith) e) r) in
    let d : distance A m ≡ distance B m = sym (agree B A distances_end e (table_words + m) (omega (arith, h, r.tables.limited.modules))) in
    let o : row_at A m ≡ row_at B m = sym (f (rows_at + m) (omega arith)) in
    subst (λ (z : Snapshot). Row W l z x (distance B m) m (row_at B m)) sn
    (subst (λ z. Row W l (snap_of W A l) x z m (row_at B m)) d (subst (λ z. Row W l (snap_of W A l) x (distance A m) m z) o (v m h)))

-- a store between the numbers and the rows
pub rows_set : (W A : List ℕ) (l : Layout) (x : FindPathCtx) (i w : ℕ) → Reads W A l → Rows W A l x → distances_end ≤ i → i < rows_at
    → Rows W (set A i w) l x
rows_set W A l x i w r v h k =
    rows_at_lem W A (set A i w) l x r v (take-set-le distances_end A i w h) (λ j o. get_or-set_other A i j w 0 (λ q. omega arith))

-- a row is kept
pub rows_put : (W A : List ℕ) (l : Layout) (x : FindPathCtx) (m w : ℕ) → Reads W A l → length A ≡ area_limit → m < l.modules → Rows W A l x
    → Row W l (snap_of W A l) x (distance A m) m w → Rows W (set A (rows_at + m) w) l x
rows_put W A l x m w r size known v row i h =
    let B = set A (rows_at + m) w in
    let e : take distances_end B ≡ take distances_end A = take-set-le distances_end A (rows_at + m) w (omega arith) in
    let sn : snap_of W A l ≡ snap_of W B l = sym (same_snap W A B l (take_less B A table_words distances_end (omega arith) e) r) in
    let d : distance A i ≡ distance B i = sym (agree B A distances_end e (table_words + i) (omega (arith, h, r.tables.limited.modules))) in
    let back : Row W l (snap_of W A l) x (distance A i) i (row_at B i) → Row W l (snap_of W B l) x (distance B i) i (row_at B i) =
    λ o. subst (λ (z : Snapshot). Row W l z x (distance B i) i (row_at B i)) sn (subst (λ z. Row W l (snap_of W A l) x z i (row_at B i)) d o) in
    ⊎_elim
    (λ t.
    let q : m ≡ i = sym (eqb-true i m t) in
    let g : w ≡ row_at B i = sym (ap (λ z. get_or B (rows_at + z) 0) (sym q) ∙ get_or-set_same A (rows_at + m) w 0
    (omega (arith, size, known, r.tables.limited.modules))) in
    back (subst (λ z. Row W l (snap_of W A l) x (distance A i) i z) g (subst (λ z. Row W l (snap_of W A l) x (distance A z) z w) q row)))
    (λ t.
    let g : row_at A i ≡ row_at B i = sym (get_or-set_other A (rows_at + m) (rows_at + i) w 0 (λ q. eqb-false i m t (omega arith))) in
    back (subst (λ z. Row W l (snap_of W A l) x (distance A i) i z) g (v i h)))
    (tested (eqb i m))

-- nothing is known
pub rows_none : (W A : List ℕ) (l : Layout) (x : FindPathCtx) → ((m : ℕ) → m < l.modules → row_at A m ≡ 0) → Rows W A l x
rows_none W A l x z m h = record { nowhere = λ q. absurd (omega (arith, z m h, q)); somewhere = λ q. absurd (omega (arith, z m h, q)) }

-- clearing
pub cleared_all : (A ys : List ℕ) (n k j : ℕ) → k ≡ n + 1 → j ≡ n + 1 → ys ≡ replicate j 0 → rows_at + n ≤ length A
    → Cleared A n (put_mid failures_at k A ys)
cleared_all A ys n k j q p e h =
    let R = drop k (drop failures_at A) in
    let l : length (take failures_at A) ≡ failures_at = length-take-le failures_at A (omega arith) in
    record {
      none = λ m o.
          let i : rows_at + m ≡ failures_at + (m + 1) = omega arith in
          let g : m + 1 < n + 1 = omega arith in
          ap (λ j. get_or (take failures_at A ++ (ys ++ R)) j 0) (i ∙ ap (λ j. j + (m + 1)) (sym l))
          ∙ get_or-append-add (take failures_at A) (ys ++ R) (m + 1) 0
          ∙ ap (λ z. get_or (z ++ R) (m + 1) 0) (e ∙ ap (λ i. replicate i 0) p)
          ∙ get_or-append (replicate (n + 1) 0) R 0 (m + 1) (simp length-replicate g) ∙ get_or-replicate (n + 1) (m + 1) 0 0 g;
      below = take-put_mid_below failures_at k A ys failures_at (omega arith) (omega arith);
    }
