-- A row is taken up, one entry after the other.
use Prim.Native.Nat.{ℕ, suc, ◌+◌, ◌-◌, ◌*◌, ◌≤◌, ◌<◌}
use mathlib.Core.Path.{◌≡◌, refl, sym, ap, ap₂, subst, ◌∙◌}
use mathlib.Core.List.{List, Memᴰ}
use mathlib.Core.Bool.{true, false, ◌&&◌}
use Rattle.std.specs.Prelude.{Some}
use native.Mathlib.Omega.{arith}
use borrow.Author.Tests.{eqb-true}
use lib.Dec.{eqb}
use Rattle.snapshot.specs.Lists.{rows}
use Rattle.snapshot.specs.Sizes.{scope_size}
use Rattle.snapshot.specs.Records.{Snapshot, Scope, scope_at}
use Rattle.snapshot.specs.Layouts.{scope_base, snap_of}
use Rattle.snapshot.specs.declared.layout.Layout.{Layout}
use Rattle.snapshot.proofs.Laws.{rows_next, rows_none, rows_whole}
use Rattle.accept.specs.Post.{Reads}
use Rattle.check_records.specs.record_rules.Stands.{counts_in}
use Rattle.accept.specs.Valid.{ScopeFits}
use Rattle.accept.proofs.Bools.{and_two}
use Rattle.accept.proofs.Stable.{snap_stays, reads_stay}
use Rattle.accept.proofs.Valid.{accepted_valid}
use Rattle.hir_def.specs.Finds.{select}
use Rattle.hir_def.specs.Items.{types, module_kind, definition_of, module_item}
use Rattle.hir_def.specs.ItemScope.{is_module_entry, entry_module}
use Rattle.hir_def.proofs.Fits.{module_known}
use Rattle.nameable.specs.Seen.{seen}
use Rattle.nameable.specs.Paths.{Path, into, entries_in}
use Rattle.nameable.specs.Breadth.{Way, with_meaning, added}
use Rattle.nameable.specs.Queue.{paths_after}
use Rattle.nameable.proofs.Plenty.{rows_in}
use Rattle.any_path.specs.Rows.{target_at, path_from, path_at, way_at, run_at, Run, Stays, Grown, Offered, leads_on, with_entry, Meant}
use Rattle.any_path.proofs.Expands.{paths_by, entry_by, with_lead, with_none}

pub link_into : (f : ℕ → Path) (i x : ℕ) → path_from f (i + 3) x ≡ into (f i) x
unfolding path_from
link_into f i x = let e : i + 3 ≡ suc (suc (suc i)) = omega arith in ap (λ (k : ℕ). path_from f k x) e

-- nothing was done
pub unchanged : (modules : ℕ) (A : List ℕ) (n : ℕ) → Run modules A n → Grown modules A n A n (run_at A n)
unchanged modules A n run =
    record { run = run; same = refl; more = omega arith; rows = λ i h. refl; stays = λ i h. refl; size = refl }

pub as_run : {modules : ℕ} {A B : List ℕ} {n r : ℕ} {ws : List Way} → Grown modules A n B r ws → Grown modules A n B r (run_at B r)
as_run g = record { run = g.run; same = refl; more = g.more; rows = g.rows; stays = g.stays; size = g.size }

-- one step after the other
pub grown_then : {modules : ℕ} {A B C : List ℕ} {n r q : ℕ} {ws vs : List Way}
    → Grown modules A n B r ws → Grown modules B r C q vs → Grown modules A n C q vs
grown_then {n = n} {r = r} f g =
    let m = f.more in
    let k = g.more in
    record {
      run = g.run;
      same = g.same;
      more = omega arith;
      rows = λ i h. g.rows i (omega arith) ∙ f.rows i h;
      stays = λ i h. g.stays i h ∙ f.stays i h;
      size = g.size ∙ f.size;
    }

-- the words and the snapshot are as they were
module _ (W A B : List ℕ) (l : Layout) (r : Reads W A l) (stays : Stays A B) where
  pub stays_snap : snap_of W B l ≡ snap_of W A l
  stays_snap = snap_stays W A B l r.tables (λ i p q. stays i q)

  pub stays_reads : Reads W B l
  stays_reads = reads_stay W A B l r (λ i p q. stays i q)

-- An entry is tried.
module _ (W A : List ℕ) (l : Layout) (r : Reads W A l) (from i n h : ℕ) where
  abbrev snap : Snapshot
  snap = snap_of W A l

  abbrev entry : Scope
  entry = scope_at W h

  pub lead_known : (m : ℕ) → ScopeFits (counts_in l) (scope_at W h) → leads_on (snap_of W A l) from m (scope_at W h) ≡ true
      → entry_module (snap_of W A l) (scope_at W h) < l.modules
  lead_known m fits t =
      let f = and_two (is_module_entry snap m entry) (seen snap from entry) t in
      let g = and_two (eqb entry.owner m) (eqb entry.ns types && eqb (definition_of snap entry.definition).kind module_kind) f.0 in
      let k = and_two (eqb entry.ns types) (eqb (definition_of snap entry.definition).kind module_kind) g.1 in
      module_known W A l r entry.definition fits.definition (eqb-true (definition_of snap entry.definition).kind module_kind k.1)

  pub entry_offered : {B : List ℕ} {c t k x : ℕ} (m : ℕ) → m ≡ target_at A i → leads_on (snap_of W A l) from m (scope_at W h) ≡ true
      → t ≡ entry_module (snap_of W A l) (scope_at W h) → k ≡ i + 3 → x ≡ (scope_at W h).name → Offered l.modules A n t k x B c
      → Grown l.modules A n B c (with_entry (snap_of W A l) from (run_at A n) (way_at A i) (scope_at W h))
  entry_offered {B} {c} {t} {k} {x} m em lead et ek ex g =
      let ws : List Way = run_at A n in
      let q : path_from (path_at A) k x ≡ into (path_at A i) entry.name = ap₂ (path_from (path_at A)) ek ex ∙ link_into (path_at A) i entry.name in
      let same : with_meaning ws (path_from (path_at A) k x) (Some (module_item t)) ≡ with_entry snap from ws (way_at A i) entry =
      ap₂ (λ (p : Path) (m : ℕ). with_meaning ws p (Some (module_item m))) q et
      ∙ with_lead snap from ws (way_at A i) entry (ap (λ (m : ℕ). leads_on snap from m entry) (sym em) ∙ lead) in
      subst (Grown l.modules A n B c) same g

  pub entry_passed : (m : ℕ) → Run l.modules A n → m ≡ target_at A i → leads_on (snap_of W A l) from m (scope_at W h) ≡ false
      → Grown l.modules A n A n (with_entry (snap_of W A l) from (run_at A n) (way_at A i) (scope_at W h))
  entry_passed m run em lead =
      subst (Grown l.modules A n A n)
      (with_none snap from (run_at A n) (way_at A i) entry (ap (λ (m : ℕ). leads_on snap from m entry) (sym em) ∙ lead))
      (unchanged l.modules A n run)

-- Entries from number k on are left, with c rows in the area B.
pub record Expanding (W A : List ℕ) (l : Layout) (from i n : ℕ) (B : List ℕ) (c k : ℕ) : Type 0 where
  pub grown : Grown l.modules A n B c (run_at B c)
  pub rest : added (snap_of W A l) from (run_at A n) (paths_after (snap_of W A l) from types (way_at A i))
      ≡ added (snap_of W A l) from (run_at B c)
      (paths_by (snap_of W A l) from (target_at A i) (path_at A i) (rows (λ j. scope_at W (scope_base l + scope_size * j)) k (l.scopes - k)))

module _ (W A : List ℕ) (l : Layout) (r : Reads W A l) (from i n : ℕ) where
  abbrev s : Snapshot
  s = snap_of W A l

  abbrev each : ℕ → Scope
  each j = scope_at W (scope_base l + scope_size * j)

  abbrev by : List Scope → List Path
  by = paths_by s from (target_at A i) (path_at A i)

  pub expanding_start : Run l.modules A n → Expanding W A l from i n A n 0
  unfolding entries_in
  expanding_start run =
      record { grown = unchanged l.modules A n run; rest = rows_whole (λ (xs : List Scope). added s from (run_at A n) (by xs)) each l.scopes }

  pub expanding_next : {B C : List ℕ} {c q k b h : ℕ} → i < n → Meant (snap_of W A l) from (way_at A i) → Expanding W A l from i n B c k
      → k < l.scopes
      → b ≡ scope_base l → h ≡ b + scope_size * k
      → Grown l.modules B c C q (with_entry (snap_of W B l) from (run_at B c) (way_at B i) (scope_at W h))
      → Expanding W A l from i n C q (k + 1)
  expanding_next {B} {C} {c} {q} {k} {b} {h} below there inv less eb eh g =
      let here : scope_at W h ≡ each k = ap (scope_at W) (eh ∙ ap (λ (z : ℕ). z + scope_size * k) eb) in
      let snap : snap_of W B l ≡ s = stays_snap W A B l r inv.grown.stays in
      let step : with_entry (snap_of W B l) from (run_at B c) (way_at B i) (scope_at W h) ≡ with_entry s from (run_at B c) (way_at A i) (each k) =
      ap (λ (u : Snapshot). with_entry u from (run_at B c) (way_at B i) (scope_at W h)) snap
      ∙ ap₂ (with_entry s from (run_at B c)) (inv.grown.rows i below) here in
      let z : 0 + k ≡ k = omega arith in
      let listed : Memᴰ (each k) s.scopes = mathlib.Core.List.Memᴰ.cast (ap each (sym z)) (rows_in each 0 l.scopes k less) in
      let left : List Scope = rows each (k + 1) (l.scopes - (k + 1)) in
      record {
        grown = grown_then inv.grown (as_run g);
        rest = inv.rest
            ∙ (ap (λ (xs : List Scope). added s from (run_at B c) (by xs)) (rows_next each k l.scopes less)
            ∙ (entry_by s from (target_at A i) (path_at A i) (each k) left (accepted_valid W s r.same) there listed (run_at B c)
            ∙ ap (λ (ws : List Way). added s from ws (by left)) (sym step ∙ sym g.same)));
      }

  pub expanding_done : {B : List ℕ} {c k : ℕ} → Expanding W A l from i n B c k → l.scopes ≤ k
      → Grown l.modules A n B c (added (snap_of W A l) from (run_at A n) (paths_after (snap_of W A l) from types (way_at A i)))
  unfolding added select
  expanding_done {B} {c} {k} inv end =
      subst (Grown l.modules A n B c)
      (sym (inv.rest ∙ ap (λ (xs : List Scope). added s from (run_at B c) (by xs)) (rows_none each k l.scopes end)))
      inv.grown
