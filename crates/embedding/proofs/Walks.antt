-- The walk of the local search in an embedded snapshot.
use Prim.Native.Nat.{ℕ, zero, suc, ◌+◌, ◌<◌}
use mathlib.Core.Path.{◌≡◌, refl, sym, ◌∙◌, ap, ap₂, subst}
use mathlib.Core.List.{List, [], ◌∷◌, ◌++◌, map, map-append}
use mathlib.Core.Bool.{Bool, ◌&&◌, ◌||◌, not}
use native.Mathlib.Omega.{arith}
use borrow.Author.Tests.{eqb-true}
use lib.Dec.{eqb}
use lib.ListN.{length}
use Rattle.snapshot.specs.Lists.{any}
use Rattle.snapshot.specs.Records.{Snapshot, Scope, Child}
use Rattle.check_rules.specs.Tests.{counts_of}
use Rattle.accept.specs.Valid.{Valid, Each, none, more, ChildFits}
use Rattle.accept.proofs.Accepted.{by_test}
use Rattle.accept.proofs.Bools.{and_two, each_snoc}
use Rattle.hir_def.specs.Finds.{select}
use Rattle.hir_def.specs.Items.{types, module_kind, definition_of, crate_of, containing}
use Rattle.module_tree.specs.rules.Visibility.{sees}
use Rattle.hir_def.specs.ItemScope.{is_module_entry, entry_module}
use Rattle.hir_def.specs.Nameres.{steps_or, steps, containers, children_of}
use Rattle.hir_def.proofs.Laws.{by_number, Falls, steps_more}
use Rattle.hir_def.proofs.Chains.{containing_falls}
use Rattle.hir_def.proofs.Every.{each_append}
use Rattle.find_path_spec.specs.Walk.{has, start_from, leads_to, unmet, walk, find_local_import_locations}
use Rattle.find_path_spec.proofs.laws.Walks.{select_hit, select_miss, locations_more}
use Rattle.join_rules.specs.Joined.{Numbers, child_to}
use Rattle.embedding.specs.Embeds.{Embeds}
use Rattle.embedding.proofs.Chains.{eqb_moved, crates_compared, sees_moved, containers_moved}
use Rattle.embedding.proofs.Lookups.{Along, end, next, Hit, first_home, fits}
use Rattle.embedding.proofs.Scopes.{ScopeHit, modules_in_scope_moved, children_moved}

-- moved numbers in lists
module _ (f : ℕ → ℕ) (n : ℕ) (same : (i j : ℕ) → i < n → j < n → eqb (f i) (f j) ≡ eqb i j) where
  pub has_moved : (ms : List ℕ) (m : ℕ) → Each (λ a. a < n) ms → m < n → has (map f ms) (f m) ≡ has ms m
  unfolding has any
  has_moved [] m none l = refl
  has_moved (a ∷ ms) m (more h hs) l = ap₂ (λ i j. i || j) (same m a l h) (has_moved ms m hs l)

  module _ (p q : ℕ → Bool) (tests : (m : ℕ) → m < n → q (f m) ≡ p m) where
    select_moved : (ms : List ℕ) → Each (λ a. a < n) ms → select q (map f ms) ≡ map f (select p ms)
    unfolding select
    select_moved [] none = refl
    select_moved (m ∷ ms) (more h hs) =
        by_test (p m)
        (λ t. select_hit q (f m) (map f ms) (tests m h ∙ t) ∙ ap (λ l. f m ∷ l) (select_moved ms hs) ∙ ap (map f) (sym (select_hit p m ms t)))
        (λ t. select_miss q (f m) (map f ms) (tests m h ∙ t) ∙ select_moved ms hs ∙ ap (map f) (sym (select_miss p m ms t)))

    select_known : (ms : List ℕ) → Each (λ a. a < n) ms → Each (λ a. a < n) (select p ms)
    unfolding select
    select_known [] none = none
    select_known (m ∷ ms) (more h hs) =
        by_test (p m)
        (λ t. subst (Each (λ a. a < n)) (sym (select_hit p m ms t)) (more h (select_known ms hs)))
        (λ t. subst (Each (λ a. a < n)) (sym (select_miss p m ms t)) (select_known ms hs))

  -- the worklist
  module _ (g h : ℕ → List ℕ) (seen met : ℕ → Bool) (leads : (m : ℕ) → m < n → h (f m) ≡ map f (g m)) (known : (m : ℕ) → m < n
      → Each (λ a. a < n) (g m))
      (marks : (m : ℕ) → m < n → met (f m) ≡ seen m)
    where
      test_moved : (done : List ℕ) → Each (λ a. a < n) done → (m : ℕ) → m < n → met (f m) || has (map f done) (f m) ≡ (seen m || has done m)
      test_moved done d m l = ap₂ (λ i j. i || j) (marks m l) (has_moved done m d l)

      unmet_moved : (done ms : List ℕ) → Each (λ a. a < n) done → Each (λ a. a < n) ms
          → unmet met (map f done) (map f ms) ≡ map f (unmet seen done ms)
      unfolding unmet
      unmet_moved done ms d k =
          select_moved (λ m. not (seen m || has done m)) (λ m. not (met m || has (map f done) m)) (λ m l. ap not (test_moved done d m l)) ms k

      unmet_known : (done ms : List ℕ) → Each (λ a. a < n) done → Each (λ a. a < n) ms → Each (λ a. a < n) (unmet seen done ms)
      unfolding unmet
      unmet_known done ms d k =
          select_known (λ m. not (seen m || has done m)) (λ m. not (met m || has (map f done) m)) (λ m l. ap not (test_moved done d m l)) ms k

      pub walk_moved : (b : ℕ) (done ws : List ℕ) → Each (λ a. a < n) done → Each (λ a. a < n) ws
          → walk h met b (map f done) (map f ws) ≡ map f (walk g seen b done ws)
      unfolding walk
      walk_moved zero done ws d k = refl
      walk_moved (suc b) done [] d none = refl
      walk_moved (suc b) done (m ∷ ws) d (more l k) =
          by_test (seen m || has done m)
          (λ t.
          let c = test_moved done d m l ∙ t in
          let x : walk h met (suc b) (map f done) (f m ∷ map f ws) ≡ walk h met b (map f done) (map f ws) = rw (walk, c) in
          let y : walk g seen (suc b) done (m ∷ ws) ≡ walk g seen b done ws = rw (walk, t) in
          x ∙ walk_moved b done ws d k ∙ ap (map f) (sym y))
          (λ t.
          let c = test_moved done d m l ∙ t in
          let d2 = each_snoc d l in
          let e = done ++ (m ∷ []) in
          let e2 : map f done ++ (f m ∷ []) ≡ map f e = sym (map-append f done (m ∷ [])) in
          let us = unmet seen e (g m) in
          let x : walk h met (suc b) (map f done) (f m ∷ map f ws)
          ≡ walk h met b (map f done ++ (f m ∷ [])) (map f ws ++ unmet met (map f done ++ (f m ∷ [])) (h (f m))) = rw (walk, c) in
          let y : walk g seen (suc b) done (m ∷ ws) ≡ walk g seen b e (ws ++ us) = rw (walk, t) in
          let z : map f ws ++ unmet met (map f e) (h (f m)) ≡ map f (ws ++ us) =
          ap (λ r. map f ws ++ unmet met (map f e) r) (leads m l) ∙ ap (λ r. map f ws ++ r) (unmet_moved e (g m) d2 (known m l))
          ∙ sym (map-append f ws us) in
          x ∙ ap (λ r. walk h met b r (map f ws ++ unmet met r (h (f m)))) e2 ∙ ap (walk h met b (map f e)) z
          ∙ walk_moved b e (ws ++ us) d2 (each_append k (unmet_known e (g m) d2 (known m l))) ∙ ap (map f) (sym y))

      pub walk_known : (b : ℕ) (done ws : List ℕ) → Each (λ a. a < n) done → Each (λ a. a < n) ws → Each (λ a. a < n) (walk g seen b done ws)
      unfolding walk
      walk_known zero done ws d k = d
      walk_known (suc b) done [] d none = d
      walk_known (suc b) done (m ∷ ws) d (more l k) =
          by_test (seen m || has done m)
          (λ t. rw (walk, t) (walk_known b done ws d k))
          (λ t.
          let d2 = each_snoc d l in
          let e = done ++ (m ∷ []) in
          rw (walk, t) (walk_known b e (ws ++ unmet seen e (g m)) d2 (each_append k (unmet_known e (g m) d2 (known m l)))))

-- the modules that steps lead to are known
pub steps_known : (step : ℕ → ℕ) (n : ℕ) → Falls step n → (d m : ℕ) → m < d → m < n → Each (λ a. a < n) (steps step m)
unfolding steps_or
steps_known step n falls zero m a b = absurd (omega arith)
steps_known step n falls (suc d) m a b =
    by_number (step m)
    (λ z. subst (Each (λ a. a < n)) (sym (steps_more step n falls m b ∙ ap (steps_or (steps step)) z)) none)
    (λ p z.
    let l = falls m p b z in
    let k : p < n = omega arith in
    subst (Each (λ a. a < n)) (sym (steps_more step n falls m b ∙ ap (steps_or (steps step)) z))
    (more k (steps_known step n falls d p (omega arith) k)))

module _ (e : Numbers) (s u : Snapshot) (em : Embeds e s u) (v : Valid s) (w : Valid u) where
  abbrev n : ℕ
  n = length s.modules

  -- the module of an entry
  module _ (m : ℕ) (x z : Scope) (h : ScopeHit e s u em v (is_module_entry s m) x z) where
    entry_kind : (definition_of s x.definition).kind ≡ 1
    entry_kind =
        let a = and_two (eqb x.owner m) (eqb x.ns types && eqb (definition_of s x.definition).kind module_kind) h.2 in
        let b = and_two (eqb x.ns types) (eqb (definition_of s x.definition).kind module_kind) a.1 in
        eqb-true (definition_of s x.definition).kind 1 b.1

    pub entry_moved : entry_module u z ≡ e.modules (entry_module s x)
    entry_moved =
        let k = entry_kind in
        ap (λ (y : Scope). (definition_of u y.definition).first) h.1
        ∙ first_home e s u em v x.definition h.0.definition (λ q. omega arith) (λ q. omega arith)

    pub entry_known : entry_module s x < n
    entry_known = let k = entry_kind in (fits e s u em v x.definition h.0.definition).home (λ q. omega arith) (λ q. omega arith)

  module _ (from : ℕ) (lf : from < n) where
    abbrev Leads : Scope → Bool
    Leads x = eqb (crate_of s (entry_module s x)) (crate_of s from) && sees s from x

    abbrev Leads' : Scope → Bool
    Leads' z = eqb (crate_of u (entry_module u z)) (crate_of u (e.modules from)) && sees u (e.modules from) z

    leads_same : (m : ℕ) (x z : Scope) → ScopeHit e s u em v (is_module_entry s m) x z → Leads' z ≡ Leads x
    leads_same m x z h =
        let k = entry_known m x z h in
        ap₂ (λ i j. i && j)
        (ap (λ i. eqb (crate_of u i) (crate_of u (e.modules from))) (entry_moved m x z h) ∙ crates_compared e s u em v w (entry_module s x) from k lf)
        (ap (sees u (e.modules from)) h.1 ∙ sees_moved e s u em v w x from lf h.0)

    leads_along : (m : ℕ) {xs zs : List Scope} → Along (ScopeHit e s u em v (is_module_entry s m)) xs zs
        → (map (entry_module u) (select Leads' zs) ≡ map e.modules (map (entry_module s) (select Leads xs)))
        × Each (λ a. a < n) (map (entry_module s) (select Leads xs))
    unfolding select
    leads_along m end = (refl, none)
    leads_along m (next {x = x} {z = z} {xs = xs} {zs = zs} h r) =
        let t = leads_along m r in
        by_test (Leads x)
        (λ a.
        let p = select_hit Leads x xs a in
        let q = select_hit Leads' z zs (leads_same m x z h ∙ a) in (
          ap (map (entry_module u)) q ∙ ap₂ (λ i j. i ∷ j) (entry_moved m x z h) t.0 ∙ ap (λ l. map e.modules (map (entry_module s) l)) (sym p),
          subst (λ l. Each (λ a. a < n) (map (entry_module s) l)) (sym p) (more (entry_known m x z h) t.1),
        ))
        (λ a.
        let p = select_miss Leads x xs a in
        let q = select_miss Leads' z zs (leads_same m x z h ∙ a) in (
          ap (map (entry_module u)) q ∙ t.0 ∙ ap (λ l. map e.modules (map (entry_module s) l)) (sym p),
          subst (λ l. Each (λ a. a < n) (map (entry_module s) l)) (sym p) t.1,
        ))

    -- where a module leads
    pub leads_moved : (m : ℕ) → m < n → (leads_to u (e.modules from) (e.modules m) ≡ map e.modules (leads_to s from m))
        × Each (λ a. a < n) (leads_to s from m)
    unfolding leads_to
    leads_moved m l = leads_along m (modules_in_scope_moved e s u em v m l)

    children_along : {xs zs : List Child} → Along (Hit (ChildFits (counts_of s)) (λ x z. z ≡ child_to e x) (λ c. eqb c.owner from)) xs zs
        → (map (λ (c : Child). c.child) zs ≡ map e.modules (map (λ (c : Child). c.child) xs))
        × Each (λ a. a < n) (map (λ (c : Child). c.child) xs)
    children_along end = (refl, none)
    children_along (next h r) =
        let t = children_along r in
        (ap₂ (λ i j. i ∷ j) (ap (λ (c : Child). c.child) h.1) t.0, more h.0.child t.1)

    -- where the walk begins
    pub start_moved : (start_from u (e.modules from) ≡ map e.modules (start_from s from)) × Each (λ a. a < n) (start_from s from)
    unfolding start_from containers
    start_moved =
        let c = children_along (children_moved e s u em v from lf) in
        let f = containing_falls s v.tree in (
          ap₂ (λ i j. i ++ j) c.0 (containers_moved e s u em v w from lf)
              ∙ sym (map-append e.modules (map (λ (c : Child). c.child) (children_of s from)) (containers s from)),
          each_append c.1 (steps_known (containing s) n f (suc from) from (omega arith) lf),
        )

    -- `find_local_import_locations`, where the modules visited are the same
    pub locations_moved : (seen met : ℕ → Bool) → ((m : ℕ) → m < n → met (e.modules m) ≡ seen m)
        → find_local_import_locations u (e.modules from) met ≡ map e.modules (find_local_import_locations s from seen)
    locations_moved seen met marks =
        let b = (length (start_from s from) + length s.scopes) + (length (start_from u (e.modules from)) + length u.scopes) in
        let st = start_moved in
        sym (locations_more u (e.modules from) met b (omega arith))
        ∙ ap (walk (leads_to u (e.modules from)) met b []) st.0
        ∙ walk_moved e.modules n (eqb_moved e.modules n em.modules_apart) (leads_to s from) (leads_to u (e.modules from))
        seen met (λ m l. (leads_moved m l).0)
        (λ m l. (leads_moved m l).1) marks b [] (start_from s from) none st.1
        ∙ ap (map e.modules) (locations_more s from seen b (omega arith))

    pub locations_known : (seen met : ℕ → Bool) → ((m : ℕ) → m < n → met (e.modules m) ≡ seen m)
        → Each (λ a. a < n) (find_local_import_locations s from seen)
    unfolding find_local_import_locations
    locations_known seen met marks =
        walk_known e.modules n (eqb_moved e.modules n em.modules_apart) (leads_to s from) (leads_to u (e.modules from))
        seen met (λ m l. (leads_moved m l).0)
        (λ m l. (leads_moved m l).1) marks (length (start_from s from) + length s.scopes) [] (start_from s from) none start_moved.1
