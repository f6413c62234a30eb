-- The modules that go to a run, one after the other: children, containing modules, and those that a module leads to.
use Prim.Native.Nat.{ℕ, suc, ◌+◌, ◌-◌, ◌*◌, ◌≤◌, ◌<◌}
use mathlib.Core.Path.{◌≡◌, sym, ◌∙◌, ap, ap₂}
use mathlib.Core.List.{List, [], ◌∷◌, map}
use mathlib.Core.Bool.{Bool, true, false, ◌&&◌}
use native.Mathlib.Omega.{arith}
use lib.Dec.{eqb}
use lib.ListN.{length}
use borrow.Author.Tests.{eq-eqb, ne_eqb}
use Rattle.snapshot.specs.Lists.{rows}
use Rattle.snapshot.specs.Limits.{module_limit}
use Rattle.snapshot.specs.Sizes.{child_size, scope_size}
use Rattle.snapshot.specs.Records.{Snapshot, Scope, Child, child_at, scope_at}
use Rattle.snapshot.specs.Layouts.{child_base, scope_base, snap_of}
use Rattle.snapshot.specs.declared.layout.Layout.{Layout}
use Rattle.snapshot.proofs.Laws.{rows_next, rows_none, rows_whole}
use Rattle.accept.specs.Post.{Reads}
use Rattle.accept.proofs.Valid.{accepted_valid}
use Rattle.accept.proofs.Trees.{accepted_tree}
use Rattle.accept.proofs.Reading.{child_read}
use Rattle.hir_def.specs.Finds.{select}
use Rattle.hir_def.specs.Items.{crate_of, containing}
use Rattle.hir_def.specs.ItemScope.{is_module_entry, entry_module}
use Rattle.module_tree.specs.rules.Visibility.{sees, is_visible_from}
use Rattle.hir_def.specs.Nameres.{children_of, containers, steps, steps_or}
use Rattle.hir_def.specs.Entries.{left_of, Meets, Ends}
use Rattle.hir_def.proofs.Laws.{Falls, steps_more}
use Rattle.hir_def.proofs.Chains.{containing_falls}
use Rattle.hir_def.proofs.Reading.{length_modules}
use Rattle.hir_def.proofs.Lookups.{modules_whole}
use Rattle.find_path_spec.specs.Walk.{leads_to}
use Rattle.find_path_spec.proofs.laws.Walks.{select_hit, select_miss}

-- the children of a module, of the records from the number k on
abbrev pub children_from : List ℕ → Layout → ℕ → ℕ → List ℕ
children_from W l from k = map (λ c. c.child) (left_of (λ c. eqb c.owner from) (λ i. child_at W (child_base l + child_size * i)) l.children k)

module _ (W : List ℕ) (l : Layout) (from k : ℕ) where
  abbrev place : ℕ → Child
  place i = child_at W (child_base l + child_size * i)

  child_hit' : k < l.children → (place k).owner ≡ from → children_from W l from k ≡ (place k).child ∷ children_from W l from (k + 1)
  child_hit' h e =
      ap (λ cs. map (λ c. c.child) (select (λ c. eqb c.owner from) cs)) (rows_next place k l.children h)
      ∙ ap (map (λ c. c.child)) (select_hit (λ c. eqb c.owner from) (place k) (rows place (k + 1) (l.children - (k + 1))) (eq-eqb _ _ e))

  pub child_hit : {b o t : ℕ} → k < l.children → b ≡ child_base l → o ≡ (child_at W (b + child_size * k)).owner
      → o ≡ from → t ≡ (child_at W (b + child_size * k)).child
      → children_from W l from k ≡ t ∷ children_from W l from (k + 1)
  child_hit h p e q r =
      child_hit' h (ap (λ b. (child_at W (b + child_size * k)).owner) (sym p) ∙ sym e ∙ q)
      ∙ ap (λ t. t ∷ children_from W l from (k + 1)) (ap (λ b. (child_at W (b + child_size * k)).child) (sym p) ∙ sym r)

  pub child_miss : {b o : ℕ} → k < l.children → b ≡ child_base l → o ≡ (child_at W (b + child_size * k)).owner → (o ≡ from → ⊥)
      → children_from W l from k ≡ children_from W l from (k + 1)
  child_miss h p e q =
      ap (λ cs. map (λ c. c.child) (select (λ c. eqb c.owner from) cs)) (rows_next place k l.children h)
      ∙ ap (map (λ c. c.child))
      (select_miss (λ c. eqb c.owner from) (place k) (rows place (k + 1) (l.children - (k + 1)))
      (ne_eqb _ _ (λ z. q (e ∙ ap (λ b. (child_at W (b + child_size * k)).owner) p ∙ z))))

  pub child_end : l.children ≤ k → children_from W l from k ≡ []
  unfolding select
  child_end h = ap (λ cs. map (λ c. c.child) (select (λ c. eqb c.owner from) cs)) (rows_none place k l.children h)

pub children_start : (W A : List ℕ) (l : Layout) (from : ℕ) → map (λ c. c.child) (children_of (snap_of W A l) from) ≡ children_from W l from 0
unfolding children_of
children_start W A l from = rows_whole (λ cs. map (λ c. c.child) (select (λ c. eqb c.owner from) cs))
    (λ i. child_at W (child_base l + child_size * i)) l.children

pub child_below : (W A : List ℕ) (l : Layout) → Reads W A l → {b k t : ℕ} → k < l.children → b ≡ child_base l
    → t ≡ (child_at W (b + child_size * k)).child → t < module_limit
child_below W A l r {b} {k} {t} h p e =
    let q : t ≡ (child_at W (child_base l + child_size * k)).child = e ∙ ap (λ b. (child_at W (b + child_size * k)).child) p in
    omega (arith, q, (child_read W A l (accepted_valid W (snap_of W A l) r.same) k h).child, r.tables.limited.modules)

-- the containing modules
module _ (W A : List ℕ) (l : Layout) (r : Reads W A l) (m : ℕ) (h : m < l.modules) {c : ℕ} (e : c ≡ containing (snap_of W A l) m) where
  abbrev snap : Snapshot
  snap = snap_of W A l

  falls : Falls (containing snap) (length snap.modules)
  falls = containing_falls snap (accepted_tree W snap r.same)

  known : m < length snap.modules
  known = rw (length_modules W A l) h

  pub containers_end : c ≡ 0 → containers snap m ≡ []
  unfolding containers steps_or
  containers_end z = steps_more (containing snap) (length snap.modules) falls m known ∙ ap (steps_or (steps (containing snap))) (sym e ∙ z)

  pub containers_on : {p : ℕ} → c ≡ suc p → containers snap m ≡ p ∷ containers snap p
  unfolding containers steps_or
  containers_on n =
      steps_more (containing snap) (length snap.modules) falls m known ∙ ap (steps_or (steps (containing snap))) (sym e ∙ n)

  pub containers_less : {p : ℕ} → c ≡ suc p → p < m
  containers_less {p} n = falls m p known (sym e ∙ n)

-- the modules that a module leads to, of the entries from the number k on
module _ (W A : List ℕ) (l : Layout) (from m : ℕ) where
  abbrev snapshot : Snapshot
  snapshot = snap_of W A l

  abbrev near : Scope → Bool
  near e = eqb (crate_of snapshot (entry_module snapshot e)) (crate_of snapshot from) && sees snapshot from e

  abbrev left : ℕ → List Scope
  left k = left_of (is_module_entry snapshot m) (λ i. scope_at W (scope_base l + scope_size * i)) l.scopes k

  abbrev pub leads_from : ℕ → List ℕ
  leads_from k = map (entry_module snapshot) (select near (left k))

  pub leads_start : leads_to snapshot from m ≡ leads_from 0
  unfolding leads_to
  leads_start = ap (λ es. map (entry_module snapshot) (select near es)) (modules_whole W A l m)

  module _ {k j h : ℕ} (x : Meets (is_module_entry snapshot m) scope_at scope_size W (scope_base l) l.scopes k j h) where
    pub leads_hit : {t : ℕ} {b : Bool} → t ≡ entry_module snapshot (scope_at W h)
        → b ≡ (eqb (crate_of snapshot t) (crate_of snapshot from) && sees snapshot from (scope_at W h)) → b ≡ true
        → leads_from k ≡ t ∷ leads_from (j + 1)
    leads_hit e q p =
        ap (λ es. map (entry_module snapshot) (select near es)) x.next
        ∙ ap (map (entry_module snapshot))
        (select_hit near (scope_at W h) (left (j + 1))
        (ap (λ t. eqb (crate_of snapshot t) (crate_of snapshot from) && sees snapshot from (scope_at W h)) (sym e) ∙ sym q ∙ p))
        ∙ ap (λ t. t ∷ leads_from (j + 1)) (sym e)

    pub leads_miss : {t : ℕ} {b : Bool} → t ≡ entry_module snapshot (scope_at W h)
        → b ≡ (eqb (crate_of snapshot t) (crate_of snapshot from) && sees snapshot from (scope_at W h)) → b ≡ false
        → leads_from k ≡ leads_from (j + 1)
    leads_miss e q p =
        ap (λ es. map (entry_module snapshot) (select near es)) x.next
        ∙ ap (map (entry_module snapshot))
        (select_miss near (scope_at W h) (left (j + 1))
        (ap (λ t. eqb (crate_of snapshot t) (crate_of snapshot from) && sees snapshot from (scope_at W h)) (sym e) ∙ sym q ∙ p))

  pub leads_end : {k : ℕ} → Ends (is_module_entry snapshot m) scope_at scope_size W (scope_base l) l.scopes k → leads_from k ≡ []
  unfolding select
  leads_end x = ap (λ es. map (entry_module snapshot) (select near es)) x.none

-- the crate of the module is the viewer's, and the entry visible
module _ (s : Snapshot) (from to : ℕ) (e : Scope) {there here : ℕ} (p : there ≡ crate_of s to) (q : here ≡ crate_of s from) where
  pub leads_no : (there ≡ here → ⊥) → false ≡ (eqb (crate_of s to) (crate_of s from) && sees s from e)
  leads_no n = rw (ne_eqb (crate_of s to) (crate_of s from) (λ z. n (p ∙ z ∙ sym q)))

  pub leads_by : {k n : ℕ} {r : Bool} → there ≡ here → k ≡ e.visibility → n ≡ e.number → r ≡ is_visible_from s k n from
      → r ≡ (eqb (crate_of s to) (crate_of s from) && sees s from e)
  leads_by z u v w =
      w ∙ ap₂ (λ k n. is_visible_from s k n from) u v
      ∙ sym (ap (λ (b : Bool). b && sees s from e) (eq-eqb (crate_of s to) (crate_of s from) (sym p ∙ z ∙ q)))
