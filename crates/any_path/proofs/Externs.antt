-- The modules that `::` and a name mean.
use Prim.Native.Nat.{ℕ, ◌+◌, ◌-◌, ◌*◌, ◌≤◌, ◌<◌}
use mathlib.Core.Path.{◌≡◌, refl, sym, ap, ap₂, subst, ◌∙◌}
use mathlib.Core.List.{List, [], ◌∷◌, map, Memᴰ}
use mathlib.Core.Bool.{Bool, true, false, ◌&&◌, true≢false}
use Rattle.std.specs.Prelude.{Option, Some, option_map}
use native.Mathlib.Omega.{arith}
use borrow.Author.Tests.{eqb-true, eq-eqb, ne_eqb, ltb-true, ltb-false}
use lib.Dec.{eqb, ltb}
use lib.ListN.{get_or}
use Rattle.snapshot.specs.Lists.{rows}
use Rattle.snapshot.specs.Sizes.{extern_size}
use Rattle.snapshot.specs.Records.{Snapshot, Extern, extern_at}
use Rattle.snapshot.specs.Layouts.{extern_base, snap_of}
use Rattle.snapshot.specs.declared.layout.Layout.{Layout}
use Rattle.snapshot.proofs.Laws.{rows_next, rows_none, rows_whole}
use Rattle.accept.specs.Post.{Reads}
use Rattle.check_rules.specs.Tests.{same_extern}
use Rattle.check_records.specs.record_rules.Stands.{counts_in}
use Rattle.accept.specs.Valid.{Valid, ExternFits}
use Rattle.accept.proofs.Accepted.{by_test}
use Rattle.accept.proofs.Bools.{and_two}
use Rattle.accept.proofs.Reading.{extern_read}
use Rattle.accept.proofs.Valid.{accepted_valid}
use Rattle.module_tree.specs.rules.Modules.{crate_of}
use Rattle.hir_def.specs.Finds.{select}
use Rattle.hir_def.specs.Items.{types, crate_data, module_item}
use Rattle.hir_def.specs.declared.Item.{Item}
use Rattle.nameable.specs.Paths.{Path, absolute, Named, named, extern_named, externs_in, absolutes, reads, means}
use Rattle.nameable.specs.Breadth.{Way, with_meaning, added, single}
use Rattle.nameable.proofs.Lists.{first_found_lem, first_some_lem}
use Rattle.nameable.proofs.Plenty.{rows_in}
use Rattle.nameable.proofs.Reached.{item_of_lem}
use Rattle.nameable.proofs.Lookups.{place_in, first_mapped}
use Rattle.any_path.specs.Rows.{path_from, run_at, Run, Grown, Offered, with_extern}
use Rattle.any_path.proofs.Taken.{unchanged, as_run, grown_then}

-- the paths by the externs of the viewer's crate among these
abbrev pub extern_paths : Snapshot → ℕ → List Extern → List Path
extern_paths s from xs = map (λ (y : Named). absolute y.name) (map extern_named (select (λ (x : Extern). eqb x.owner (crate_of s from)) xs))

module _ (s : Snapshot) (ok : Valid s) (from : ℕ) where
  -- two externs of one crate and name are one
  extern_one : (x y : Extern) → Memᴰ x s.externs → Memᴰ y s.externs → x.owner ≡ y.owner → x.name ≡ y.name → x ≡ y
  extern_one x y i j eo en =
      let d : Extern = record { owner = 0; name = 0; target = 0; place = 0 } in
      let a = place_in d i in
      let b = place_in d j in
      by_test (ltb a.0 b.0)
      (λ t.
      let f = ok.once.externs a.0 b.0 (ltb-true a.0 b.0 t) b.1 in
      absurd (true≢false (sym (same y x (sym eo) (sym en)) ∙ (ap₂ same_extern (sym b.2) (sym a.2) ∙ f))))
      (λ t.
      by_test (ltb b.0 a.0)
      (λ u.
      let f = ok.once.externs b.0 a.0 (ltb-true b.0 a.0 u) a.1 in
      absurd (true≢false (sym (same x y eo en) ∙ (ap₂ same_extern (sym a.2) (sym b.2) ∙ f))))
      (λ u.
      let z : a.0 ≡ b.0 = omega (arith, ltb-false a.0 b.0 t, ltb-false b.0 a.0 u) in
      sym a.2 ∙ (ap (λ (q : ℕ). get_or s.externs q d) z ∙ b.2)))
    where
      same : (v w : Extern) → v.owner ≡ w.owner → v.name ≡ w.name → same_extern v w ≡ true
      same v w eo en = rw (eq-eqb v.owner w.owner eo) (eq-eqb v.name w.name en)

  abbrev owned : Extern → Bool
  owned x = eqb x.owner (crate_of s from)

  -- an extern of the viewer's crate is what its name means
  pub extern_named_lem : (x : Extern) → Memᴰ x s.externs → eqb x.owner (crate_of s from) ≡ true
      → named x.name (externs_in s from types) ≡ Some (extern_named x)
  unfolding named externs_in
  extern_named_lem x i h =
      let test : Extern → Bool = λ (y : Extern). owned y && eqb y.name x.name in
      let here : test x ≡ true = rw h (eq-eqb x.name x.name refl) in
      let f = first_some_lem test i here in
      let g = first_found_lem test s.externs f.0 f.1 in
      let k = and_two (owned f.0) (eqb f.0.name x.name) g.1 in
      let one : f.0 ≡ x =
      extern_one f.0 x g.0 i (eqb-true f.0.owner (crate_of s from) k.0 ∙ sym (eqb-true x.owner (crate_of s from) h))
      (eqb-true f.0.name x.name k.1) in
      first_mapped (λ (y : Named). eqb y.name x.name) extern_named owned s.externs ∙ ap (option_map extern_named) (f.1 ∙ ap Some one)

  module _ (late : eqb (crate_data s (crate_of s from)).edition 2015 ≡ false) where
    extern_means_lem : (x : Extern) → Memᴰ x s.externs → eqb x.owner (crate_of s from) ≡ true
        → means s from types (absolute x.name) ≡ Some (module_item x.target)
    unfolding means reads absolutes
    extern_means_lem x i h = item_of_lem (reads s from types (absolute x.name)) (extern_named x) (rw (absolutes, late) (extern_named_lem x i h))

    -- the extern's name, and then the others'
    pub extern_by : (ws : List Way) (x : Extern) (xs : List Extern) → Memᴰ x s.externs
        → added s from ws (extern_paths s from (x ∷ xs)) ≡ added s from (with_extern (crate_of s from) ws x) (extern_paths s from xs)
    unfolding select with_extern added
    extern_by ws x xs i =
        by_test (owned x)
        (λ t.
        let paths : extern_paths s from (x ∷ xs) ≡ absolute x.name ∷ extern_paths s from xs = rw (t, select) in
        let here : with_meaning ws (absolute x.name) (Some (module_item x.target)) ≡ with_extern (crate_of s from) ws x = rw (t, with_extern) in
        ap (added s from ws) paths
        ∙ (ap (λ (o : Option Item). added s from (with_meaning ws (absolute x.name) o) (extern_paths s from xs)) (extern_means_lem x i t)
        ∙ ap (λ (us : List Way). added s from us (extern_paths s from xs)) here))
        (λ t. rw (t, select, with_extern))

    single_late : single false s from types ≡ extern_paths s from s.externs
    unfolding single absolutes externs_in
    single_late = rw (late, absolutes)

  single_early : eqb (crate_data s (crate_of s from)).edition 2015 ≡ true → single false s from types ≡ []
  unfolding single absolutes
  single_early t = rw (t, absolutes)

module _ {modules c n : ℕ} {A : List ℕ} (x : Extern) {o : ℕ} (owner : o ≡ x.owner) where
  pub extern_passed : Run modules A n → (o ≡ c → ⊥) → Grown modules A n A n (with_extern c (run_at A n) x)
  unfolding with_extern
  extern_passed run h =
      let other : eqb x.owner c ≡ false = ne_eqb x.owner c (λ e. h (owner ∙ e)) in
      let same : run_at A n ≡ with_extern c (run_at A n) x = rw (other, with_extern) in
      subst (Grown modules A n A n) same (unchanged modules A n run)

  pub extern_offered : {B : List ℕ} {r t y : ℕ} → o ≡ c → t ≡ x.target → y ≡ x.name → Offered modules A n t 1 y B r
      → Grown modules A n B r (with_extern c (run_at A n) x)
  unfolding with_extern path_from
  extern_offered {B} {r} {t} {y} h et ey g =
      let own : eqb x.owner c ≡ true = eq-eqb x.owner c (sym owner ∙ h) in
      let same : with_meaning (run_at A n) (absolute x.name) (Some (module_item x.target)) ≡ with_extern c (run_at A n) x = rw (own, with_extern) in
      subst (Grown modules A n B r) (ap₂ (λ (v u : ℕ). with_meaning (run_at A n) (absolute v) (Some (module_item u))) ey et ∙ same) g

-- Externs from number k on are left, with c rows in the area B.
pub record Naming (W A : List ℕ) (l : Layout) (from n : ℕ) (B : List ℕ) (c k : ℕ) : Type 0 where
  pub grown : Grown l.modules A n B c (run_at B c)
  pub rest : added (snap_of W A l) from (run_at A n) (extern_paths (snap_of W A l) from (snap_of W A l).externs)
      ≡ added (snap_of W A l) from (run_at B c) (extern_paths (snap_of W A l) from
      (rows (λ j. extern_at W (extern_base l + extern_size * j)) k (l.externs - k)))

module _ (W A : List ℕ) (l : Layout) (r : Reads W A l) (from n : ℕ) where
  abbrev s : Snapshot
  s = snap_of W A l

  abbrev each : ℕ → Extern
  each j = extern_at W (extern_base l + extern_size * j)

  valid : Valid s
  valid = accepted_valid W s r.same

  pub extern_known : {k b h : ℕ} → k < l.externs → b ≡ extern_base l → h ≡ b + extern_size * k → ExternFits (counts_in l) (extern_at W h)
  extern_known {k} i eb eh =
      subst (λ (h : ℕ). ExternFits (counts_in l) (extern_at W h)) (sym (eh ∙ ap (λ (z : ℕ). z + extern_size * k) eb)) (extern_read W A l valid k i)

  pub naming_start : Run l.modules A n → Naming W A l from n A n 0
  naming_start run =
      record {
        grown =
            unchanged l.modules A n run;
        rest = rows_whole (λ (xs : List Extern). added s from (run_at A n) (extern_paths s from xs)) each
            l.externs;
      }

  module _ {e c : ℕ} (krate : c ≡ crate_of (snap_of W A l) from) (edition : e ≡ (crate_data (snap_of W A l) c).edition) where
    pub named_early : Run l.modules A n → e ≡ 2015
        → Grown l.modules A n A n (added (snap_of W A l) from (run_at A n) (single false (snap_of W A l) from types))
    unfolding added
    named_early run t =
        let early : eqb (crate_data s (crate_of s from)).edition 2015 ≡ true =
        eq-eqb (crate_data s (crate_of s from)).edition 2015 (ap (λ (u : ℕ). (crate_data s u).edition) (sym krate) ∙ (sym edition ∙ t)) in
        subst (Grown l.modules A n A n) (ap (added s from (run_at A n)) (sym (single_early s valid from early))) (unchanged l.modules A n run)

    module _ (late : e ≡ 2015 → ⊥) where
      later : eqb (crate_data s (crate_of s from)).edition 2015 ≡ false
      later =
          ne_eqb (crate_data s (crate_of s from)).edition 2015
          (λ z. late (edition ∙ (ap (λ (u : ℕ). (crate_data s u).edition) krate ∙ z)))

      pub naming_next : {B C : List ℕ} {m q k b h : ℕ} → Naming W A l from n B m k → k < l.externs → b ≡ extern_base l → h ≡ b + extern_size * k
          → Grown l.modules B m C q (with_extern c (run_at B m) (extern_at W h)) → Naming W A l from n C q (k + 1)
      naming_next {B} {C} {m} {q} {k} {b} {h} inv less eb eh g =
          let here : extern_at W h ≡ each k = ap (extern_at W) (eh ∙ ap (λ (z : ℕ). z + extern_size * k) eb) in
          let step : with_extern c (run_at B m) (extern_at W h) ≡ with_extern (crate_of s from) (run_at B m) (each k) =
          ap₂ (λ (u : ℕ) (x : Extern). with_extern u (run_at B m) x) krate here in
          let z : 0 + k ≡ k = omega arith in
          let listed : Memᴰ (each k) s.externs = mathlib.Core.List.Memᴰ.cast (ap each (sym z)) (rows_in each 0 l.externs k less) in
          let left : List Extern = rows each (k + 1) (l.externs - (k + 1)) in
          record {
            grown = grown_then inv.grown (as_run g);
            rest = inv.rest
                ∙ (ap (λ (xs : List Extern). added s from (run_at B m) (extern_paths s from xs)) (rows_next each k l.externs less)
                ∙ (extern_by s valid from later (run_at B m) (each k) left listed
                ∙ ap (λ (ws : List Way). added s from ws (extern_paths s from left)) (sym step ∙ sym g.same)));
          }

      pub naming_done : {B : List ℕ} {m k : ℕ} → Naming W A l from n B m k → l.externs ≤ k
          → Grown l.modules A n B m (added (snap_of W A l) from (run_at A n) (single false (snap_of W A l) from types))
      unfolding added select
      naming_done {B} {m} {k} inv end =
          subst (Grown l.modules A n B m)
          (sym (ap (added s from (run_at A n)) (single_late s valid from later)
          ∙ (inv.rest ∙ ap (λ (xs : List Extern). added s from (run_at B m) (extern_paths s from xs)) (rows_none each k l.externs end))))
          inv.grown
