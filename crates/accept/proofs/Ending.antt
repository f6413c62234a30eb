-- After the last record: the last tests, and the tables of accepted words.
use Prim.Native.Nat.{ℕ, zero, suc, ◌+◌, ◌*◌, ◌≤◌, ◌<◌}
use mathlib.Core.Path.{◌≡◌, refl, sym, ◌∙◌, ap, subst}
use mathlib.Core.List.{List}
use mathlib.Core.Bool.{Bool, true, false, ◌||◌, not, false≢true}
use native.Mathlib.Omega.{arith}
use native.Mathlib.Nat.{add-zero, zero-add}
use lib.ListN.{length, get_or}
use lib.Seq.{ext_get_or}
use lib.Dec.{eqb, leb}
use borrow.Author.Tests.{eqb-true, eqb-false, leb-true, leb-false, lt-leb, not-true}
use Rattle.snapshot.specs.Lists.{rows, any, all}
use Rattle.snapshot.specs.Limits.{word_limit, module_limit}
use Rattle.snapshot.specs.Sizes.{crate_size, dependency_size, child_size, prelude_size}
use Rattle.snapshot.specs.Sizes.{definition_size, scope_size, import_size, extern_size, member_size}
use Rattle.snapshot.specs.Records.{Map, map_at, crate_at, dependency_at, child_at, prelude_at}
use Rattle.snapshot.specs.Records.{definition_at, scope_at, import_at, extern_at, member_at}
use Rattle.snapshot.specs.Layouts.{crate_base, dependency_base, child_base, prelude_base, definition_base, scope_base}
use Rattle.snapshot.specs.Layouts.{import_base, extern_base, member_base, module_map, module_head, map_root, own_map, module_row}
use Rattle.snapshot.specs.Layouts.{names_of, maps_of, modules_of, records_of, snap_with, snap_of, module_table, root_table}
use Rattle.snapshot.specs.declared.layout.Layout.{Layout}
use Rattle.snapshot.proofs.Laws.{length_rows, get_d_rows}
use Rattle.check_rules.specs.Tests.{no_map, is_own, is_in, maps_filled, crates_own}
use Rattle.check_rules.specs.Verdict.{accept, finish, verdict}
use Rattle.check_records.specs.record_rules.Stands.{own_of, Stands, Rooted}
use Rattle.record_index.specs.Index.{Index, Sized}
use Rattle.accept.specs.Post.{Judged}
use Rattle.accept.specs.Ends.{Ended}
use Rattle.std.specs.Prelude.{Ok, Err}
use Rattle.snapshot.specs.declared.refusal.Refusal.TheVariants.{Words, Place}
use Rattle.accept.specs.declared.check.Refused.{Refused}
use Rattle.check_records.proofs.record_rules.Judged.{and_left, and_right}
use Rattle.accept.proofs.Valid.{accepted_valid}
use Rattle.accept.proofs.Reading.{dependency_read, scope_read, import_read, extern_read}
use Rattle.check_records.proofs.module_records.Regions.{own_any}
use Rattle.check_records.proofs.record_rules.Tabled.{Kept, names_kept, modules_kept, heads_kept}

-- tests over numbered things

all_same : (p q : ℕ → Bool) (k n : ℕ) → ((i : ℕ) → i < k + n → p i ≡ q i) → all p (rows (λ i. i) k n) ≡ all q (rows (λ i. i) k n)
unfolding all rows
all_same p q k zero h = refl
all_same p q k (suc n) h = rw (h k (omega arith), all_same p q (k + 1) n (λ i u. h i (omega arith)))

all_at' : (p : ℕ → Bool) (k n i : ℕ) → i < n → all p (rows (λ j. j) k n) ≡ true → p (k + i) ≡ true
unfolding all rows
all_at' p k zero i h e = absurd (omega arith)
all_at' p k (suc n) zero h e = rw add-zero (and_left (p k) (all p (rows (λ j. j) (k + 1) n)) e)
all_at' p k (suc n) (suc i) h e =
    let f : k + suc i ≡ k + 1 + i = omega arith in
    rw f (all_at' p (k + 1) n i (omega arith) (and_right (p k) (all p (rows (λ j. j) (k + 1) n)) e))

all_at : (p : ℕ → Bool) (n i : ℕ) → i < n → all p (rows (λ j. j) 0 n) ≡ true → p i ≡ true
all_at p n i h e = rw zero-add at (all_at' p 0 n i h e)

any_some : {A : Type 0} (p : A → Bool) (f : ℕ → A) (k n : ℕ) → any p (rows f k n) ≡ true → (i : ℕ) × (k ≤ i) × (i < k + n) × (p (f i) ≡ true)
unfolding any rows
any_some p f k zero e = absurd (false≢true e)
any_some p f k (suc n) e = by (p (f k)) refl e (λ g. any_some p f (k + 1) n g)
  where
    by : (b : Bool) → p (f k) ≡ b → (b || any p (rows f (k + 1) n)) ≡ true
        → (any p (rows f (k + 1) n) ≡ true → (i : ℕ) × (k + 1 ≤ i) × (i < k + 1 + n) × (p (f i) ≡ true))
        → (i : ℕ) × (k ≤ i) × (i < k + suc n) × (p (f i) ≡ true)
    by true q g r = (k, omega arith, omega arith, q)
    by false q g r = let x = r g in let y = x.1 in let z = x.2 in (x.0, omega arith, omega arith, x.3)

by_test : {C : Type 0} (b : Bool) → (b ≡ true → C) → (b ≡ false → C) → C
by_test true y n = y refl
by_test false y n = n refl

-- where every map is met and maps rise along the modules, there are no more maps than modules
module _ (f : ℕ → ℕ) (n maps : ℕ) (rising : (i j : ℕ) → i ≤ j → j < n → f i ≤ f j) (met : (k : ℕ) → k < maps → (i : ℕ) × (i < n)
    × (f i ≡ k)) (low : (i : ℕ) → i < n → f i < maps) where
  apart : (i j : ℕ) → j < n → suc i < n → f j ≡ suc i → f i ≤ i → suc i < f (suc i) → ⊥
  apart i j p q e s l =
      by_test (leb j i)
      (λ t. (let u = leb-true j i t in let r = rising j i u (omega arith) in omega arith))
      (λ t. (let u = leb-false j i t in let r = rising (suc i) j (omega arith) p in omega arith))

  slow : (i : ℕ) → i < n → f i ≤ i
  slow zero h =
      let m = met 0 (let l = low 0 h in omega arith) in
      let r = rising 0 m.0 (omega arith) m.1 in
      let e = m.2 in
      omega arith
  slow (suc i) h =
      by_test (leb (f (suc i)) (suc i))
      (λ t. leb-true (f (suc i)) (suc i) t)
      (λ t.
      (let l = leb-false (f (suc i)) (suc i) t in
      let m = met (suc i) (let q = low (suc i) h in omega arith) in
      absurd (apart i m.0 m.1 h m.2 (slow i (omega arith)) l)))

  few_maps : maps ≤ n
  few_maps = by maps met
    where
      by : (k : ℕ) → ((j : ℕ) → j < k → (i : ℕ) × (i < n) × (f i ≡ j)) → k ≤ n
      by zero g = omega arith
      by (suc k) g =
          let m = g k (omega arith) in
          let r = slow m.0 m.1 in
          let p = m.1 in
          let e = m.2 in
          omega arith

-- the last tests, as the code makes them
module _ (W A : List ℕ) (k : ℕ) (l : Layout) (ms : List Map) (st : Stands W A k (length W) l ms) where
  filled_same : all (λ j. any (is_in j) (modules_of A l.modules)) (rows (λ j. j) 0 l.maps) ≡ maps_filled (snap_with W A l ms)
  filled_same = ap (λ n. all (λ j. any (is_in j) (modules_of A l.modules)) (rows (λ j. j) 0 n)) (sym st.count)

  owned_same : all (λ c. not (eqb (own_map A c) 0)) (rows (λ c. c) 0 l.crates) ≡ crates_own (snap_with W A l ms)
  owned_same =
      all_same (λ c. not (eqb (own_map A c) 0)) (λ c. any (is_own c) ms) 0 l.crates (λ c h. ap (λ x. not (eqb x 0)) (st.own c (omega arith))
      ∙ own_any c 0 ms)
      ∙ ap (λ n. all (λ c. any (is_own c) ms) (rows (λ c. c) 0 n)) (sym (length_rows _ l.crates))

  module _ (v : verdict W ≡ finish (length W) (snap_with W A l ms)) where
    pub not_filled : {a : Bool} → a ≡ all (λ j. any (is_in j) (modules_of A l.modules)) (rows (λ j. j) 0 l.maps)
        → a ≡ false → Judged W A (Err (record { why = Place; at = length W }))
    unfolding finish
    not_filled e h = record { same = sym (v ∙ rw (finish, ← filled_same, ← e, h)); tables = tt }

    pub not_owned : {a b : Bool} → a ≡ all (λ j. any (is_in j) (modules_of A l.modules)) (rows (λ j. j) 0 l.maps) → a ≡ true
        → b ≡ all (λ c. not (eqb (own_map A c) 0)) (rows (λ c. c) 0 l.crates) → b ≡ false → Judged W A (Err (record { why = Place; at = length W }))
    unfolding finish
    not_owned e h f g = record { same = sym (v ∙ rw (finish, ← filled_same, ← e, h, ← owned_same, ← f, g)); tables = tt }

  module _ (filled : all (λ j. any (is_in j) (modules_of A l.modules)) (rows (λ j. j) 0 l.maps) ≡ true) where
    met : (j : ℕ) → j < l.maps → (i : ℕ) × (i < l.modules) × (module_map A i ≡ j)
    met j h =
        let x = any_some (is_in j) (module_row A) 0 l.modules (all_at (λ j. any (is_in j) (modules_of A l.modules)) l.maps j h filled) in
        let y = x.2 in
        (x.0, omega arith, eqb-true _ _ x.3)

    pub maps_few : l.maps ≤ l.modules
    maps_few = few_maps (module_map A) l.modules l.maps st.rising met st.below

    pub map_small : (m : ℕ) → m < l.modules → module_map A m < module_limit
    map_small m h = let p = maps_few in let q = st.below m h in let r = st.limited.modules in omega arith

    -- B is the area with the roots
    module _ (B : List ℕ) (r : Rooted A B l.modules) where
      rooted : (j : ℕ) → j < l.maps → (map_root B j < l.modules) × (module_map A (map_root B j) ≡ j)
      rooted j h =
          let x = met j h in
          let e = x.2 in
          (subst (λ t. map_root B t < l.modules) e (r.below x.0 x.1), subst (λ t. module_map A (map_root B t) ≡ t) e (r.inside x.0 x.1))

      kept : Kept A B 0 root_table
      kept i p q = r.names i q

      map_stays : (m : ℕ) → m < l.modules → module_map B m ≡ module_map A m
      map_stays m h = let q = st.limited.modules in r.names (module_table + 3 * m) (omega arith)

      maps_same : maps_of W B l.maps ≡ ms
      maps_same =
          ext_get_or no_map (maps_of W B l.maps) ms (length_rows _ l.maps ∙ sym st.count)
          (λ j h.
          let g : j < l.maps = rw (length_rows (λ k. map_at W (module_head B (map_root B k))) l.maps) at h in
          let x = rooted j g in
          let y = x.0 in
          let q = st.limited.modules in
          get_d_rows (λ k. map_at W (module_head B (map_root B k))) no_map l.maps j g
          ∙ ap (map_at W) (r.names (module_table + 3 * map_root B j + 1) (omega arith))
          ∙ sym (st.inside (map_root B j) x.0)
          ∙ ap (λ k. get_or ms k no_map) x.1)

      snap_same : snap_of W B l ≡ snap_with W A l ms
      snap_same =
          let q_names : names_of W B l.names ≡ names_of W A l.names = names_kept W A B l.names st.limited.names
          (λ i u v. kept i u (omega arith)) in
          let q_modules : modules_of B l.modules ≡ modules_of A l.modules = modules_kept A B l.modules st.limited.modules
          (λ i u v. kept i (omega arith) v) in
          let q-maps = maps_same in
          λ i. record {
            names = q_names i;
            crates = records_of crate_at crate_size W (crate_base l) l.crates;
            dependencies = records_of dependency_at dependency_size W (dependency_base l) l.dependencies;
            maps = q-maps i;
            modules = q_modules i;
            children = records_of child_at child_size W (child_base l) l.children;
            preludes = records_of prelude_at prelude_size W (prelude_base l) l.preludes;
            definitions = records_of definition_at definition_size W (definition_base l) l.definitions;
            scopes = records_of scope_at scope_size W (scope_base l) l.scopes;
            imports = records_of import_at import_size W (import_base l) l.imports;
            externs = records_of extern_at extern_size W (extern_base l) l.externs;
            members = records_of member_at member_size W (member_base l) l.members;
          }

      -- the verdict
      pub accepts : verdict W ≡ finish (length W) (snap_with W A l ms)
          → all (λ c. not (eqb (own_map A c) 0)) (rows (λ c. c) 0 l.crates) ≡ true
          → verdict W ≡ accept (snap_of W B l)
      unfolding finish
      accepts v owned = v ∙ rw (finish, ← filled_same, filled, ← owned_same, owned) (ap accept (sym snap_same))

      -- there is room for the index
      pub sized : length W ≤ word_limit → verdict W ≡ accept (snap_of W B l) → Sized W l
      sized short v =
          record {
            short = omega (arith, st.place);
            few = st.limited.modules;
            crates = st.limited.crates;
            owners = λ k h. (scope_read W B l (accepted_valid W (snap_of W B l) v) k h).owner;
            entries = λ k h. (scope_read W B l (accepted_valid W (snap_of W B l) v) k h).definition;
            imports = λ k h. (import_read W B l (accepted_valid W (snap_of W B l) v) k h).definition;
            dependencies = λ k h. (dependency_read W B l (accepted_valid W (snap_of W B l) v) k h).owner;
            externs = λ k h. (extern_read W B l (accepted_valid W (snap_of W B l) v) k h).owner;
          }

      pub accepted : length W ≤ word_limit → verdict W ≡ finish (length W) (snap_with W A l ms)
          → all (λ c. not (eqb (own_map A c) 0)) (rows (λ c. c) 0 l.crates) ≡ true
          → Index W l B → Judged W B (Ok l)
      accepted short v owned index =
          record {
            same = sym (accepts v owned);
            tables =
                record {
                  whole = st.place;
                  short = short;
                  limited = st.limited;
                  maps = maps_few;
                  heads = heads_kept W A B l.names st.limited.names (λ i u w. kept i u (omega arith)) st.heads;
                  below = λ m h. rw (map_stays m h) (st.below m h);
                  mapped = λ m h.
                      (let q = st.limited.modules in
                      ap (λ x. get_or x (module_map B m) no_map) maps_same ∙ ap (λ k. get_or ms k no_map) (map_stays m h) ∙ st.inside m h
                      ∙ ap (map_at W) (sym (r.names (module_table + 3 * m + 1) (omega arith))));
                  rooted = λ j h. (rooted j h).0;
                  inside = λ j h. map_stays (map_root B j) (rooted j h).0 ∙ (rooted j h).1;
                  first = λ m h. rw (map_stays m h) (r.first m h);
                  own = λ c h. r.crates c (let q = st.limited.crates in omega arith) ∙ st.own c h ∙ ap (own_of c) (sym maps_same);
                  owned = λ c h.
                      (let q = st.limited.crates in
                      let e = r.crates c (omega arith) in
                      let n : (own_map A c ≡ 0 → ⊥) = eqb-false (own_map A c) 0
                      (not-true (eqb (own_map A c) 0) (all_at (λ c. not (eqb (own_map A c) 0)) l.crates c h owned)) in
                      omega arith);
                  index = index;
                };
          }

pub too_long : (W A : List ℕ) → word_limit < length W → Judged W A (Err (record { why = Words; at = word_limit }))
unfolding verdict
too_long W A h = record { same = sym (rw (verdict, lt-leb _ _ h)); tables = tt }

pub ended_judged : (W A : List ℕ) (e : Refused) → Ended W A (Err e) → Judged W A (Err e)
ended_judged W A e h = record { same = sym h; tables = tt }
