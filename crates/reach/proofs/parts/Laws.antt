-- Laws of the first records and of the tally.
use Prim.Native.Nat.{ℕ, zero, suc, ◌+◌, ◌*◌, ◌≤◌, ◌<◌}
use mathlib.Core.Path.{◌≡◌, refl, sym, ◌∙◌, ap, ap₂}
use mathlib.Core.List.{List, [], ◌∷◌, map}
use mathlib.Core.Bool.{Bool}
use native.Mathlib.Omega.{arith}
use native.Mathlib.Nat.{zero-add}
use borrow.Author.Tests.{eq-eqb, ne_eqb, eqb-true, eqb-false}
use lib.Dec.{eqb, ltb}
use lib.ListN.{length, take, get_or, replicate, set, length-set}
use lib.Seq.{get_or-set_same, get_or-set_other}
use Rattle.snapshot.specs.Limits.{path_limit}
use Rattle.snapshot.specs.Refusals.{unknown_refusal}
use Rattle.snapshot.specs.Sizes.{scope_size}
use Rattle.snapshot.specs.Records.{Snapshot, Scope, scope_at}
use Rattle.snapshot.specs.Layouts.{scope_base, snap_of}
use Rattle.snapshot.specs.declared.layout.Layout.{Layout}
use Rattle.check_rules.specs.Verdict.{accept, verdict}
use Rattle.accept.proofs.Accepted.{by_test}
use Rattle.hir_def.specs.Items.{same_item}
use Rattle.hir_def.specs.declared.Item.{Item}
use Rattle.find_path_spec.specs.declared.Report.{Report}
use Rattle.find_path_spec.specs.declared.Tank.{Tank}
use Rattle.find_path_spec.specs.Meters.{from_tank, filled}
use Rattle.find_path_spec.specs.Report.{call_fault, reported, searched}
use Rattle.find_path_spec.proofs.laws.Bounds.{search_fits}
use Rattle.find_path_spec.proofs.laws.Refusals.{call_allowed}
use Rattle.find_path_spec.proofs.laws.Outcomes.{flag_small}
use Rattle.reach.specs.declared.parts.Viewer.{Viewer}
use Rattle.reach.specs.parts.Reach.{item_in, distinct, query_for, refused_reach, reach_by, reach_unless, reach_of, report_for, column, names_found}
use Rattle.reach.specs.parts.Reach.{added, tallied, tallied_reach, tally_all, reach_in, sum, total}
use Rattle.reach.specs.parts.Within.{Within}

-- the test of one earlier record
pub met_test : (W A : List ℕ) (l : Layout) (j k : ℕ) {b : ℕ} {x y : Item} {r : Bool} → b ≡ scope_base l → r ≡ same_item x y
    → x ≡ item_in (snap_of W A l) (scope_at W (b + scope_size * j)) → y ≡ item_in (snap_of W A l) (scope_at W (b + scope_size * k))
    → same_item (item_in (snap_of W A l) (scope_at W (scope_base l + scope_size * j)))
    (item_in (snap_of W A l) (scope_at W (scope_base l + scope_size * k))) ≡ r
met_test W A l j k e t p q =
    let S = snap_of W A l in
    sym (t ∙ ap₂ same_item (p ∙ ap (λ b. item_in S (scope_at W (b + scope_size * j))) e)
    (q ∙ ap (λ b. item_in S (scope_at W (b + scope_size * k))) e))

module _ (r : Report) where
  pub found_column : r.outcome ≡ 0 → r.count ≡ column r
  unfolding column
  found_column h = rw (column, eq-eqb _ _ h)

  pub none_column : (r.outcome ≡ 0 → ⊥) → r.outcome ≡ 1 → 18 + r.empty ≡ column r
  unfolding column
  none_column h k = rw (column, ne_eqb _ _ h, eq-eqb _ _ k)

  pub other_column : (r.outcome ≡ 0 → ⊥) → (r.outcome ≡ 1 → ⊥) → 17 ≡ column r
  unfolding column
  other_column h k = rw (column, ne_eqb _ _ h, ne_eqb _ _ k)

  pub found_names : r.outcome ≡ 0 → r.count ≡ names_found r
  unfolding names_found
  found_names h = rw (names_found, eq-eqb _ _ h)

  pub other_names : (r.outcome ≡ 0 → ⊥) → 0 ≡ names_found r
  unfolding names_found
  other_names h = rw (names_found, ne_eqb _ _ h)

  pub column_small : r.count ≤ 16 → r.empty ≤ 1 → column r ≤ 19
  unfolding column
  column_small h k =
      by_test (eqb r.outcome 0) (λ a. rw (column, a) (omega arith)) (λ a.
      by_test (eqb r.outcome 1) (λ b. rw (column, a, b) (omega arith)) (λ b. rw (column, a, b) (omega arith)))

  pub names_small : r.count ≤ 16 → names_found r ≤ 16
  unfolding names_found
  names_small h = by_test (eqb r.outcome 0) (λ a. rw (names_found, a) (omega arith)) (λ a. rw (names_found, a) (omega arith))

-- one number of a list grows

pub added_long : (t : List ℕ) (i n : ℕ) → length (added t i n) ≡ length t
unfolding added
added_long t i n = length-set t i (get_or t i 0 + n)

pub added_within : (t : List ℕ) (i n b : ℕ) → i < length t → Within b t → Within (b + n) (added t i n)
unfolding added
added_within t i n b h w =
    λ j.
    by_test (eqb j i) (λ e. let q = eqb-true j i e in let p = get_or-set_same t i (get_or t i 0 + n) 0 h in rw q (omega (arith, w i)))
    (λ e. let p = get_or-set_other t i j (get_or t i 0 + n) 0 (eqb-false j i e) in omega (arith, w j))

-- the counts together grow by that, where it is one of them
pub sum_added : (k : ℕ) (t : List ℕ) (i n : ℕ) → i < k → i < length t → sum (take k (added t i n)) ≡ sum (take k t) + n
unfolding added sum
sum_added zero t i n h l = absurd (omega arith)
sum_added (suc k) [] i n h l = absurd (omega arith)
sum_added (suc k) (x ∷ t) zero n h l = omega arith
sum_added (suc k) (x ∷ t) (suc i) n h l = let p = sum_added k t i n (omega arith) (omega arith) in omega arith

pub sum_other : (k : ℕ) (t : List ℕ) (i n : ℕ) → k ≤ i → sum (take k (added t i n)) ≡ sum (take k t)
unfolding added sum
sum_other zero t i n h = refl
sum_other (suc k) [] i n h = refl
sum_other (suc k) (x ∷ t) zero n h = absurd (omega arith)
sum_other (suc k) (x ∷ t) (suc i) n h = ap (λ y. x + y) (sum_other k t i n (omega arith))

-- a report more
module _ (t : List ℕ) (r : Report) (long : length t ≡ 21) (few : r.count ≤ 16) (flag : r.empty ≤ 1) where
  first_long : length (added t (column r) 1) ≡ 21
  first_long = added_long t (column r) 1 ∙ long

  pub tallied_long : length (tallied t r) ≡ 21
  unfolding tallied
  tallied_long = added_long (added t (column r) 1) 20 (names_found r) ∙ first_long

  pub tallied_within : (b : ℕ) → Within b t → Within (b + 17) (tallied t r)
  unfolding tallied
  tallied_within b w =
      let p = column_small r few flag in
      let q = names_small r few in
      let v = added_within (added t (column r) 1) 20 (names_found r) (b + 1) (omega (arith, first_long))
      (added_within t (column r) 1 b (omega (arith, long)) w) in
      λ j. omega (arith, v j)

  pub tallied_total : total (tallied t r) ≡ total t + 1
  unfolding tallied
  tallied_total =
      sum_other 20 (added t (column r) 1) 20 (names_found r) (omega arith)
      ∙ sum_added 20 t (column r) 1 (omega (arith, column_small r few flag)) (omega (arith, long, column_small r few flag))

-- what the code adds: in the column and the names that it found
pub tallied_by : (t : List ℕ) (r : Report) {i n : ℕ} → i ≡ column r → n ≡ names_found r
    → record { number = 0; counts = set (set t i (get_or t i 0 + 1)) 20 (get_or (set t i (get_or t i 0 + 1)) 20 0 + n) }
    ≡ tallied_reach (record { number = 0; counts = t }) r
unfolding tallied_reach tallied added
tallied_by t r e f =
    ap₂ (λ i n. record { number = 0; counts = set (set t i (get_or t i 0 + 1)) 20 (get_or (set t i (get_or t i 0 + 1)) 20 0 + n) }) e f

pub last_fits : (t : List ℕ) (i n b : ℕ) → i < 20 → Within b t → n ≤ 16 → get_or (set t i (get_or t i 0 + 1)) 20 0 + n < b + 16
last_fits t i n b h w f = let p = get_or-set_other t i 20 (get_or t i 0 + 1) 0 (omega arith) in omega (arith, w 20)

-- the reports of a search

-- a limit that is not refused
pub record Limited (v : Viewer) : Type 0 where
  pub some : 0 < v.limit
  pub most : v.limit ≤ path_limit

module _ (s : Snapshot) (v : Viewer) (e : Scope) where
  pub report_few : Limited v → (report_for s v e).count ≤ 16
  unfolding report_for reported searched
  report_few m = (search_fits Tank from_tank s (query_for v e.ns e.definition) m.some m.most (filled v.fuel)).few

  pub report_flag : (report_for s v e).empty ≤ 1
  unfolding report_for reported
  report_flag = flag_small _

-- the counts together are as many as the reports
all_total : (s : Snapshot) (v : Viewer) → Limited v → (t : List ℕ) (es : List Scope) → length t ≡ 21
    → total (tally_all t (map (report_for s v) es)) ≡ total t + length es
unfolding tally_all
all_total s v m t [] l = omega arith
all_total s v m t (e ∷ es) l =
    let few = report_few s v e m in
    let small = report_flag s v e in
    let p = all_total s v m (tallied t (report_for s v e)) es (tallied_long t (report_for s v e) l few small) in
    omega (arith, tallied_total t (report_for s v e) l few small)

in_total : (s : Snapshot) (v : Viewer) → Limited v → total (reach_in s v) ≡ length (distinct s)
unfolding reach_in sum
in_total s v m = all_total s v m (replicate 21 0) (distinct s) refl ∙ zero-add (length (distinct s))

module _ (words : List ℕ) (s : Snapshot) (e : verdict words ≡ accept s) (v : Viewer) where
  by_total : Limited v → (reach_by v (accept s)).number ≡ 0 → total (reach_by v (accept s)).counts ≡ length (distinct s)
  unfolding reach_by refused_reach
  by_total m h =
      by_test (ltb v.from.0 (length s.modules)) (λ t. rw (reach_by, t) (in_total s v m))
      (λ t. let z : unknown_refusal ≡ 0 = rw (reach_by, t) at h in absurd (omega arith))

  unless_total : (n : ℕ) → (n ≡ 0 → Limited v) → (reach_unless words v n).number ≡ 0 → total (reach_unless words v n).counts ≡ length (distinct s)
  unfolding reach_unless refused_reach
  unless_total zero m h = rw e (by_total (m refl) (rw e at h))
  unless_total (suc n) m h = absurd (omega (arith, h))

  -- The counts of a reach that is not refused together are the number of distinct items.
  pub reach_total : (area : ℕ) → (reach_of words area v).number ≡ 0 → total (reach_of words area v).counts ≡ length (distinct s)
  unfolding reach_of
  reach_total area h =
      unless_total (call_fault area (query_for v 0 0) v.fuel)
      (λ z. let a = call_allowed area (query_for v 0 0) v.fuel z in record { some = a.some; most = a.limit }) h
