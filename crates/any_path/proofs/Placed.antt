-- The record by which the last name of a row's path is read.
use Prim.Native.Nat.{ℕ, suc, ◌+◌, ◌-◌, ◌≤◌, ◌<◌}
use mathlib.Core.Path.{◌≡◌, refl, sym, ap, ◌∙◌}
use mathlib.Core.List.{List}
use Rattle.std.specs.Prelude.{Option, None, Some, option_map}
use native.Mathlib.Omega.{arith}
use lib.Dec.{eqb}
use Rattle.snapshot.specs.Limits.{module_limit}
use Rattle.snapshot.specs.Records.{Snapshot}
use Rattle.accept.proofs.Accepted.{by_test}
use Rattle.accept.proofs.Bools.{each_rows}
use Rattle.module_tree.specs.rules.Modules.{crate_of}
use Rattle.hir_def.specs.Finds.{first_of}
use Rattle.hir_def.specs.Items.{types, crate_data, module_item}
use Rattle.hir_def.specs.declared.Item.{Item}
use Rattle.nameable.specs.Paths.{Path, keyword, absolute, plain, into, named, as_named, extern_named, absolutes, within, module_named, after, reads}
use Rattle.nameable.specs.Paths.{item_in, means, place_in}
use Rattle.nameable.specs.Queue.{seen_named}
use Rattle.nameable.proofs.Lists.{none_some}
use Rattle.nameable.proofs.Reached.{item_in_lem}
use Rattle.nameable.proofs.Lookups.{named_seen}
use Rattle.any_path.specs.Rows.{target_at, link_at, name_at, keyword_from, path_from, path_to, path_at, way_at, run_at, Meant, InRun}
use Rattle.any_path.specs.Plain.{externs_named}
use Rattle.any_path.proofs.Written.{from_same, path_same, run_small}
use Rattle.any_path.proofs.Plains.{externs_read}

keyword_place : (o : Option ℕ) → 0 ≡ place_in (module_named o)
unfolding module_named place_in
keyword_place None = refl
keyword_place (Some m) = refl

module _ (s : Snapshot) (from : ℕ) where
  absolute_read : (n : ℕ) (x : Item) → means s from types (absolute n) ≡ Some x
      → reads s from types (absolute n) ≡ option_map extern_named (externs_named s from types n)
  unfolding means reads absolutes item_in named first_of
  absolute_read n x e =
      by_test (eqb (crate_data s (crate_of s from)).edition 2015)
      (λ t. absurd (none_some (rw (t, absolutes) at e)))
      (λ t. rw (t, absolutes) (externs_read s from types n))

  into_read : (n t : ℕ) (p : Path) → means s from types p ≡ Some (module_item t)
      → reads s from types (into p n) ≡ option_map (as_named s) (seen_named s from types t n)
  unfolding means reads after within
  into_read n t p e =
      let f = item_in_lem (reads s from types p) (module_item t) e in
      rw (f.1, f.2) (named_seen s from types t n)

module _ (s : Snapshot) (from modules : ℕ) (A : List ℕ) (i : ℕ) (there : InRun s from modules A i) where
  path_of : path_at A i ≡ path_from (path_at A) (link_at A i) (name_at A i)
  unfolding path_at path_to
  path_of =
      let l = there.run.linked i there.below in
      let b = there.below in
      from_same (path_to i A) (path_at A) (link_at A i) (name_at A i)
      (λ j e. path_same A A there.n there.run.linked (λ k h. refl) (λ k h. refl) i (suc j) j (omega (arith, l, e)) (omega arith) (omega
      (arith, l, e, b)))

  -- its number, and its link, are small
  pub row_small : modules ≤ module_limit → i < module_limit
  row_small few = omega (arith, run_small modules A there.n there.run few, there.below)

  pub link_small : modules ≤ module_limit → {k : ℕ} → k ≡ link_at A i → k < module_limit + 3
  link_small few e = omega (arith, row_small few, there.run.linked i there.below, e)

  row_means : (j : ℕ) → j < there.n → Meant s from (way_at A j)
  unfolding run_at
  row_means j h = each_rows {P = Meant s from} (way_at A) there.n j there.meant h

  module _ {k x : ℕ} (link : k ≡ link_at A i) (name : x ≡ name_at A i) where
    its_path : path_at A i ≡ path_from (path_at A) k x
    its_path = path_of ∙ ap (λ (j : ℕ). path_from (path_at A) j (name_at A i)) (sym link) ∙ ap (path_from (path_at A) k) (sym name)

    its_place : {p : ℕ} (q : Path) → path_from (path_at A) k x ≡ q → p ≡ place_in (reads s from types q)
        → p ≡ place_in (reads s from types (path_at A i))
    its_place q e h = h ∙ ap (λ (v : Path). place_in (reads s from types v)) (sym (its_path ∙ e))

    pub place_keyword : k ≡ 0 → 0 ≡ place_in (reads s from types (path_at A i))
    unfolding path_from reads
    place_keyword e = its_place (keyword (keyword_from x)) (ap (λ (j : ℕ). path_from (path_at A) j x) e) (keyword_place _)

    pub place_absolute : {p : ℕ} → k ≡ 1 → p ≡ place_in (option_map extern_named (externs_named s from types x))
        → p ≡ place_in (reads s from types (path_at A i))
    unfolding path_from
    place_absolute e h =
        let is : path_from (path_at A) k x ≡ absolute x = ap (λ (j : ℕ). path_from (path_at A) j x) e in
        let m : means s from types (absolute x) ≡ Some (module_item (target_at A i)) =
        ap (means s from types) (sym (its_path ∙ is)) ∙ row_means i there.below in
        its_place (absolute x) is (h ∙ ap place_in (sym (absolute_read s from x (module_item (target_at A i)) m)))

    pub place_plain : {p : ℕ} → k ≡ 2 → p ≡ place_in (reads s from types (plain x)) → p ≡ place_in (reads s from types (path_at A i))
    unfolding path_from
    place_plain e h = its_place (plain x) (ap (λ (j : ℕ). path_from (path_at A) j x) e) h

    module _ (a : k ≡ 0 → ⊥) (b : k ≡ 1 → ⊥) (c : k ≡ 2 → ⊥) where
      pub link_far : 3 ≤ k
      link_far = omega (arith, a, b, c)

      pub link_below : k - 3 < i
      link_below = let l = there.run.linked i there.below in omega (arith, l, link, link_far)

      pub place_into : {p t : ℕ} → t ≡ target_at A (k - 3) → p ≡ place_in (option_map (as_named s) (seen_named s from types t x))
          → p ≡ place_in (reads s from types (path_at A i))
      unfolding path_from
      place_into {p} {t} et h =
          let j : ℕ = k - 3 in
          let far = link_far in
          let z : k ≡ suc (suc (suc j)) = omega (arith, far) in
          let is : path_from (path_at A) k x ≡ into (path_at A j) x = ap (λ (u : ℕ). path_from (path_at A) u x) z in
          let below = there.below in
          let m : means s from types (path_at A j) ≡ Some (module_item t) = row_means j (omega (arith, link_below, below)) ∙ ap (λ (u : ℕ). Some
          (module_item u)) (sym et) in
          its_place (into (path_at A j) x) is (h ∙ ap place_in (sym (into_read s from x t (path_at A j) m)))
