-- Every module that a local search takes is of the viewer's crate, and the root of a module's own map is its crate's.
use mathlib.Core.Path.{◌≡◌, refl, ap, sym, ◌∙◌}
use Prim.Native.Nat.{ℕ, zero, suc, ◌+◌, ◌≤◌, ◌<◌}
use native.Mathlib.Omega.{arith}
use native.Mathlib.Decide.{dec_le}
use native.Mathlib.Numerals.{add-one}
use mathlib.Core.List.Memᴰ
use mathlib.Core.List.{List, [], ◌∷◌, map}
use mathlib.Core.Bool.{Bool, true, false, ◌&&◌, ◌||◌}
use lib.Dec.{eqb}
use lib.ListN.{length, get_or, get_or-eq_default}
use borrow.Author.Tests.{eqb-true, eq-eqb}
use Rattle.snapshot.specs.Records.{Snapshot, Map, Module, Child}
use Rattle.check_rules.specs.Tests.{no_map, no_module}
use Rattle.accept.specs.Valid.{Each, more, Valid}
use Rattle.accept.proofs.Accepted.{by_test}
use Rattle.accept.proofs.Bools.{and_left, and_two, each_snoc}
use Rattle.hir_def.specs.Finds.{place_of, select}
use Rattle.hir_def.specs.Items.{module_of, map_of, map_no, crate_of, parent_of, block_of, root_of, own_map, crate_root, or_else, containing}
use Rattle.module_tree.specs.rules.Visibility.{sees}
use Rattle.hir_def.specs.ItemScope.{modules_in_scope, entry_module}
use Rattle.hir_def.specs.Nameres.{children_of, containers, steps, steps_to, steps_or}
use Rattle.hir_def.proofs.Laws.{by_number}
use Rattle.hir_def.proofs.Found.{each_select}
use Rattle.hir_def.proofs.Chains.{map_known, parent_fits, block_fits}
pub use Rattle.hir_def.proofs.Every.{each_append}
use Rattle.hir_def.proofs.Every.{each_in}
use Rattle.find_path_spec.specs.Walk.{has, unmet, walk, start_from, leads_to, find_local_import_locations}
use Rattle.find_path_spec.specs.laws.Routes.{◌∈◌}

-- what stands in a list, and passes the test of a selection

pub select_found : {A : Type 0} {P : A → Type 0} (p : A → Bool) (xs : List A) → ((y : A) → y ∈ xs → p y ≡ true → P y) → Each P (select p xs)
unfolding select
select_found p [] f = Each.none
select_found p (x ∷ xs) f =
    let g = select_found p xs (λ y h. f y (Memᴰ.tail h)) in
    by_test (p x) (λ t. rw (t, select) (more (f x (Memᴰ.head refl) t) g)) (λ t. rw (t, select) g)

pub each_of : {A B : Type 0} (P : B → Type 0) (f : A → B) {xs : List A} → Each (λ x. P (f x)) xs → Each P (map f xs)
each_of P f Each.none = Each.none
each_of P f (more p h) = more p (each_of P f h)

-- the first place that passes
place_first : {A : Type 0} (p : A → Bool) (xs : List A) (d : A) (j k : ℕ) → k < length xs → p (get_or xs k d) ≡ true
    → ((i : ℕ) → i < k → p (get_or xs i d) ≡ false) → place_of p j xs ≡ j + k
unfolding place_of
place_first p [] d j k h t f = absurd (omega arith)
place_first p (x ∷ xs) d j zero h t f = rw (t, place_of) (omega arith)
place_first p (x ∷ xs) d j (suc k) h t f =
    let n : p x ≡ false = f 0 (omega arith) in
    let q = place_first p xs d (j + 1) k (omega arith) t (λ i l. f (suc i) (omega arith)) in
    rw (n, place_of) (q ∙ omega arith)

or_either : {C : Type 0} (a b w : ℕ) → or_else a b ≡ suc w → (a ≡ suc w → C) → (b ≡ suc w → C) → C
unfolding or_else
or_either zero b w q f g = g q
or_either (suc p) b w q f g = f q

module _ (P : ℕ → Type 0) (next : ℕ → List ℕ) (seen : ℕ → Bool) (leads : (m : ℕ) → Each P (next m)) where
  pub walk_each : (b : ℕ) {d ws : List ℕ} → Each P d → Each P ws → Each P (walk next seen b d ws)
  unfolding walk unmet
  walk_each zero h g = h
  walk_each (suc b) h Each.none = h
  walk_each (suc b) {d = d} h (more {x = m} p g) =
      by_test (seen m || has d m) (λ t. rw (walk, t) (walk_each b h g))
      (λ t. rw (walk, t) (walk_each b (each_snoc h p) (each_append g (each_select _ (leads m)))))

module _ (s : Snapshot) (v : Valid s) where
  -- what is no module has no parent
  parent_there : (m p : ℕ) → parent_of s m ≡ suc p → m < length s.modules
  unfolding module_of
  parent_there m p e =
      elim (dec_le (length s.modules) m) [
        | yes h ↦ let z = sym (ap (λ (y : Module). y.parent) (get_or-eq_default s.modules no_module h)) ∙ e in absurd (omega arith)
        | no h ↦ omega arith
      ]

  parent_crate : (m p : ℕ) → parent_of s m ≡ suc p → crate_of s p ≡ crate_of s m
  parent_crate m p e = ap (λ (k : ℕ). (map_of s k).crate) (parent_fits s v.tree m p (parent_there m p e) e).1

  -- the first map is no block's
  first_block : (b : ℕ) → (map_of s 0).block ≡ suc b → ⊥
  unfolding map_of
  first_block b e =
      elim (dec_le (length s.maps) 0) [
        | yes h ↦ let z = sym (ap (λ (y : Map). y.block) (get_or-eq_default s.maps no_map h)) ∙ e in omega arith
        | no h ↦ let f = (v.tree.blocks 0 b (omega arith) e).1 in omega arith
      ]

  no_module_lem : (m : ℕ) → length s.modules ≤ m → map_no s m ≡ 0
  unfolding module_of
  no_module_lem m h = ap (λ (y : Module). y.map) (get_or-eq_default s.modules no_module h)

  block_crate : (m b : ℕ) → block_of s m ≡ suc b → crate_of s b ≡ crate_of s m
  block_crate m b e =
      elim (dec_le (length s.modules) m) [
        | yes h ↦ absurd (first_block b (sym (ap (λ (k : ℕ). (map_of s k).block) (no_module_lem m h)) ∙ e))
        | no h ↦ (block_fits s v.tree m b (omega arith) e).1
      ]

  containing_crate : (m p : ℕ) → containing s m ≡ suc p → crate_of s p ≡ crate_of s m
  unfolding containing
  containing_crate m p e = or_either (parent_of s m) (block_of s m) p e (parent_crate m p) (block_crate m p)

  -- the map of a module that is in no block is its crate's own
  own_map_lem : (m : ℕ) → m < length s.modules → block_of s m ≡ 0 → own_map s (crate_of s m) ≡ map_no s m
  unfolding own_map map_of
  own_map_lem m h e =
      let l = map_known s v.tree m h in
      place_first (λ (y : Map). eqb y.crate (crate_of s m) && eqb y.block 0) s.maps no_map 0 (map_no s m) l
      (rw (eq-eqb (crate_of s m) (crate_of s m) refl, eq-eqb (block_of s m) 0 e))
      (λ i j.
      by_test (eqb (get_or s.maps i no_map).crate (crate_of s m) && eqb (get_or s.maps i no_map).block 0)
      (λ t. let f = and_two _ _ t in absurd (v.owned.once i (map_no s m) j l (eqb-true _ 0 f.1) e (eqb-true _ _ f.0)))
      (λ t. t))
      ∙ omega arith

  pub own_root : (m p : ℕ) → parent_of s m ≡ suc p → block_of s m ≡ 0 → root_of s (map_no s m) ≡ crate_root s m
  unfolding crate_root
  own_root m p h e = ap (root_of s) (sym (own_map_lem m (parent_there m p h) e))

  pub crate_root_lem : (m n : ℕ) → crate_of s m ≡ crate_of s n → crate_root s m ≡ crate_root s n
  unfolding crate_root
  crate_root_lem m n e = ap (λ (c : ℕ). root_of s (own_map s c)) e

  module _ (from : ℕ) where
    -- a module of the viewer's crate
    abbrev pub Near : ℕ → Type 0
    Near m = crate_of s m ≡ crate_of s from

    child_near : (c : Child) → c ∈ s.children → eqb c.owner from ≡ true → Near c.child
    unfolding module_of
    child_near c h t =
        let e : parent_of s c.child ≡ suc c.owner = each_in v.children h ∙ add-one c.owner in
        sym (parent_crate c.child c.owner e) ∙ ap (crate_of s) (eqb-true c.owner from t)

    children_near : Each Near (map (λ c. c.child) (children_of s from))
    unfolding children_of
    children_near = each_of Near (λ c. c.child) (select_found (λ c. eqb c.owner from) s.children child_near)

    steps_near : (d m : ℕ) → Near m → Each Near (steps_to (containing s) d m)
    unfolding steps_to steps_or
    steps_near zero m h = Each.none
    steps_near (suc d) m h =
        by_number (containing s m) (λ z. rw z Each.none)
        (λ p q. let e = containing_crate m p q ∙ h in rw q (more {x = p} e (steps_near d p e)))

    containers_near : Each Near (containers s from)
    unfolding containers steps
    containers_near = steps_near from from refl

    leads_near : (m : ℕ) → Each Near (leads_to s from m)
    unfolding leads_to
    leads_near m =
        each_of Near (entry_module s)
        (select_found (λ e. eqb (crate_of s (entry_module s e)) (crate_of s from) && sees s from e) (modules_in_scope s m)
        (λ e _ t. eqb-true _ _ (and_left (eqb (crate_of s (entry_module s e)) (crate_of s from)) _ t)))

    pub locations_near : (seen : ℕ → Bool) → Each Near (find_local_import_locations s from seen)
    unfolding find_local_import_locations start_from
    locations_near seen = walk_each Near (leads_to s from) seen leads_near _ Each.none (each_append children_near containers_near)
