-- The modules that a rule may answer for are marked.
use Prim.Native.Nat.{ℕ, zero, suc, ◌+◌, ◌*◌, ◌≤◌, ◌<◌}
use mathlib.Core.Path.{◌≡◌, refl, ap, ap₂, sym, ◌∙◌, subst}
use mathlib.Core.List.{List, [], ◌∷◌, ◌++◌}
use mathlib.Core.Bool.{Bool, true, false, ◌&&◌, ◌||◌, not, true≢false, false≢true}
use mathlib.Core.Logic.{◌⊎◌, inl, inr, ⊎_elim}
use Rattle.std.specs.Prelude.{Option, None, Some}
use native.Mathlib.Omega.{arith}
use borrow.Rule.Slice.PartMut.{put_mid}
use Rattle.std.proofs.lemmas.Slice.{take-put_mid_below}
use lib.Dec.{eqb}
use lib.ListN.{length, get_or, set, take, drop, replicate, length-replicate, get_or-append, get_or-replicate}
use lib.Seq.{get_or-set_same, get_or-append-add, length-take-le}
use borrow.Author.Count.{below_more}
use borrow.Author.Tests.{eqb-true, eq-eqb}
use Rattle.snapshot.specs.Sizes.{scope_size}
use Rattle.snapshot.specs.Limits.{module_limit, area_limit}
use Rattle.snapshot.specs.Records.{Snapshot, Scope, Prelude, scope_at}
use Rattle.snapshot.specs.Layouts.{table_words, scope_base, snap_of}
use Rattle.snapshot.specs.declared.layout.Layout.{Layout}
use Rattle.record_index.specs.Index.{key_of, Follows}
use Rattle.record_index.specs.declared.chains.Chain.TheVariants.{Modules}
use Rattle.accept.specs.Post.{Reads}
use Rattle.accept.specs.Valid.{Each, more}
use Rattle.accept.proofs.Accepted.{by_test}
use Rattle.accept.proofs.Bools.{and_left, each_map}
use Rattle.module_tree.proofs.Reading.{crate_there, root_read}
use Rattle.hir_def.specs.Finds.{select}
use Rattle.hir_def.specs.Entries.{left_of, Meets, Ends}
use Rattle.hir_def.specs.ItemScope.{is_module_entry, entry_module, modules_in_scope}
use Rattle.hir_def.specs.Items.{types, module_kind, definition_of, crate_root, root_of, own_map, item_of}
use Rattle.hir_def.specs.Items.{parent_of, crate_of, in_block, block_of, map_no}
use Rattle.hir_def.specs.Items.{module_item, defined_item}
use Rattle.hir_def.specs.Nameres.{steps, steps_or, ancestor_maps, prelude_of}
use Rattle.accept.proofs.Trees.{accepted_tree}
use Rattle.hir_def.proofs.Lookups.{item_module, item_other, modules_whole}
use Rattle.hir_def.proofs.item_scope.Along.{met_follows}
use Rattle.hir_def.proofs.Laws.{Falls, steps_more}
use Rattle.hir_def.proofs.Chains.{parent_fits, block_falls}
use Rattle.hir_def.proofs.Reading.{length_modules}
use Rattle.find_path_spec.specs.declared.FindPathCtx.{FindPathCtx}
use Rattle.find_path_spec.specs.Rules.{module_in, may_be_in_scope, parent_kind, is_kw_kind_relative_to_from, keyword_of}
use Rattle.find_path_spec.specs.Local.{is_importable, importable_name}
use Rattle.find_path_spec.specs.laws.Near.{imports}
use Rattle.find_path_spec.proofs.laws.Tables.{same_snap, same_reads}
use Rattle.find_path_local.specs.distances.Distances.{distance, Named, is_keyword}
use Rattle.find_path_local.specs.distances.Post.{Ready, Cleared, Rooted, Marked, Lowers}
use Rattle.find_path_local.proofs.distances.Lowering.{lowers_same, lowers_then, lowers_snap, lowers_ready, lowers_far, set_lowers, distances_less}
use Rattle.find_path_local.proofs.distances.Lowering.{all_less}
use Rattle.find_path_local.proofs.distances.Near.{some_is, import_for, import_passes, ruled_one}

-- a module is marked
module _ (A : List ℕ) (m : ℕ) (size : length A ≡ area_limit) (known : m < module_limit) where
  pub mark_set : {w : ℕ} → w ≡ distance A m → (w ≤ 1 → ⊥) → Lowers A (set A (table_words + m) 1) × (distance (set A (table_words + m) 1) m ≤ 1)
  mark_set e h =
      let s = get_or-set_same A (table_words + m) 1 0 (omega arith) in
      (set_lowers A (table_words + m) 1 (omega arith) (omega arith) (omega arith) (omega arith), omega (arith, s))

-- the numbers are cleared
pub cleared_all : (A ys : List ℕ) (n k j : ℕ) → k ≡ n → j ≡ n → ys ≡ replicate j 16 → table_words + n ≤ length A
    → Cleared A n (put_mid table_words k A ys)
cleared_all A ys n k j q p e h =
    let R = drop k (drop table_words A) in
    let l : length (take table_words A) ≡ table_words = length-take-le table_words A (omega arith) in
    record {
      all = λ m o.
          ap (λ j. get_or (take table_words A ++ (ys ++ R)) (j + m) 0) (sym l) ∙ get_or-append-add (take table_words A) (ys ++ R) m 0
          ∙ ap (λ z. get_or (z ++ R) m 0) (e ∙ ap (λ i. replicate i 16) p) ∙ get_or-append (replicate n 16) R 0 m (simp length-replicate o)
          ∙ get_or-replicate n m 16 0 o;
      tables = take-put_mid_below table_words k A ys table_words (omega arith) (omega arith);
    }

-- the roots of the first crates are marked
pub record Rooting (W A₀ : List ℕ) (l : Layout) (A : List ℕ) (c : ℕ) : Type 0 where
  pub lowers : Lowers A₀ A
  pub size : length A ≡ length A₀
  pub within : c ≤ l.crates
  pub roots : (i : ℕ) → i < c → distance A (root_of (snap_of W A₀ l) (own_map (snap_of W A₀ l) i)) ≤ 1

pub rooting_start : (W A : List ℕ) (l : Layout) → Rooting W A l A 0
rooting_start W A l = record { lowers = lowers_same A; size = refl; within = omega arith; roots = λ i h. absurd (omega arith) }

module _ (W A₀ : List ℕ) (l : Layout) (r₀ : Reads W A₀ l) (A : List ℕ) (c : ℕ) (v : Rooting W A₀ l A c) where
  pub rooting_next : {m : ℕ} (B : List ℕ) → c < l.crates → m ≡ root_of (snap_of W A l) (own_map (snap_of W A l) c)
      → Lowers A B × (distance B m ≤ 1) → length B ≡ length A → Rooting W A₀ l B (c + 1)
  rooting_next {m} B h e f z =
      let S₀ = snap_of W A₀ l in
      let q : m ≡ root_of S₀ (own_map S₀ c) = e ∙ ap (λ (s : Snapshot). root_of s (own_map s c)) (lowers_snap W l v.lowers r₀) in
      record {
        lowers = lowers_then v.lowers f.0;
        size = z ∙ v.size;
        within = omega arith;
        roots = below_more (λ i. distance B (root_of S₀ (own_map S₀ i)) ≤ 1) c
            (λ i o. let a = v.roots i o in let b = distances_less f.0 (root_of S₀ (own_map S₀ i)) in omega arith)
            (subst (λ y. distance B y ≤ 1) q f.1);
      }

  -- the crate's root is a module
  pub rooting_known : {k r : ℕ} → (k ≡ own_map (snap_of W A l) c) × (k < l.maps) → r ≡ root_of (snap_of W A l) k → r < module_limit
  rooting_known {k} {r} o e =
      let x = same_reads W A₀ A l v.lowers.tables r₀ in
      let q = root_read W A l x.tables k o.1 in
      let b = x.tables.rooted k o.1 in
      omega (arith, e, q, b, x.tables.limited.modules)

-- a module that is its crate's root is one of them
pub root_one : (W A : List ℕ) (l : Layout) → Reads W A l → (d : ℕ → ℕ)
    → ((c : ℕ) → c < l.crates → d (root_of (snap_of W A l) (own_map (snap_of W A l) c)) ≤ 1)
    → (m : ℕ) → m < l.modules → crate_root (snap_of W A l) m ≡ m → d m ≤ 1
unfolding crate_root
root_one W A l r d h m o e = subst (λ y. d y ≤ 1) e (h (crate_of (snap_of W A l) m) (crate_there W A l r m o))

-- an entry for a module
module _ (s : Snapshot) where
  mod_not_def : {m ns d : ℕ} → defined_item ns d ≡ module_item m → ⊥
  mod_not_def z = let w : ◌≡◌ {A = ℕ} 0 1 = cc in omega arith

  mod_same : {m n : ℕ} → module_item m ≡ module_item n → m ≡ n
  unfolding module_in
  mod_same z = let w = ap module_in z in omega (arith, w)

  pub module_entry : (e : Scope) (c m : ℕ) → e.owner ≡ c → item_of s e.ns e.definition ≡ module_item m
      → (is_module_entry s c e ≡ true) × (entry_module s e ≡ m)
  module_entry e c m o q =
      by_test (eqb e.ns types && eqb (definition_of s e.definition).kind module_kind)
      (λ t. (ap₂ ◌&&◌ (eq-eqb _ _ o) t, mod_same (item_module s e.ns e.definition refl t refl ∙ q)))
      (λ t. absurd (mod_not_def (item_other s e.ns e.definition refl t ∙ q)))

-- what the entries for modules have, all have
each_if : {A : Type 0} {Q : A → Type 0} (p : A → Bool) (xs : List A) → Each Q (select p xs) → Each (λ x. p x ≡ true → Q x) xs
unfolding select
each_if p [] h = Each.none
each_if {Q = Q} p (x ∷ xs) h = by (p x) refl (λ g. each_if p xs g) h
  where
    by : (b : Bool) → p x ≡ b → (Each Q (select p xs) → Each (λ x. p x ≡ true → Q x) xs)
        → Each Q (elim b [ true ↦ x ∷ select p xs | false ↦ select p xs ]) → Each (λ x. p x ≡ true → Q x) (x ∷ xs)
    by true e rec (more q g) = more (λ _. q) (rec g)
    by false e rec g = more (λ t. absurd (true≢false (sym t ∙ e))) (rec g)

-- the entries of a module, one after the other, in areas that are related: what is shown of the rest gives it for all
pub record Along (R : List ℕ → List ℕ → Type 0) (W A₀ : List ℕ) (l : Layout) (c : ℕ) (Q : List ℕ → Scope → Type 0) (A : List ℕ) (k : ℕ) : Type 0
  where
    pub moves : R A₀ A
    pub size : length A ≡ length A₀
    pub within : k ≤ l.scopes
    pub follows : Follows (key_of W l Modules) c k
    pub rest : (B : List ℕ) → R A B → Each (Q B) (left_of (is_module_entry (snap_of W A₀ l) c) (λ i. scope_at W (scope_base l + scope_size * i))
        l.scopes k)
        → Each (Q B) (left_of (is_module_entry (snap_of W A₀ l) c) (λ i. scope_at W (scope_base l + scope_size * i)) l.scopes 0)

module _ (R : List ℕ → List ℕ → Type 0) (stay : (A : List ℕ) → R A A) (on : (A B C : List ℕ) → R A B → R B C → R A C)
    (W A₀ : List ℕ) (l : Layout) (c : ℕ) (Q : List ℕ → Scope → Type 0)
    (down : (A B : List ℕ) → R A B → (e : Scope) → Q A e → Q B e)
  where
    pub along_start : Along R W A₀ l c Q A₀ 0
    along_start =
        record { moves = stay A₀; size = refl; within = omega arith; follows = λ h. absurd (omega arith); rest = λ B f g. g }

    module _ {A : List ℕ} {k : ℕ} (v : Along R W A₀ l c Q A k) where
      pub along_next : {j h : ℕ} (B : List ℕ) → Meets (is_module_entry (snap_of W A₀ l) c) scope_at scope_size W (scope_base l) l.scopes k j h
          → R A B → Q B (scope_at W h) → length B ≡ length A → Along R W A₀ l c Q B (j + 1)
      along_next {j} {h} B x f q z =
          record {
            moves = on A₀ A B v.moves f;
            size = z ∙ v.size;
            within = omega (arith, x.below);
            follows = λ _. met_follows W A₀ l c x (omega arith);
            rest = λ C g t. v.rest C (on A B C f g) (subst (Each (Q C)) (sym x.next) (more (down B C g (scope_at W h) q) t));
          }

      pub along_done : Ends (is_module_entry (snap_of W A₀ l) c) scope_at scope_size W (scope_base l) l.scopes k
          → Each (λ e. is_module_entry (snap_of W A₀ l) c e ≡ true → Q A e) (snap_of W A₀ l).scopes
      unfolding modules_in_scope
      along_done x =
          each_if (is_module_entry (snap_of W A₀ l) c) (snap_of W A₀ l).scopes
          (subst (Each (Q A)) (sym (modules_whole W A₀ l c)) (v.rest A (stay A) (subst (Each (Q A)) (sym x.none) Each.none)))

-- the entries of a scope are marked
unfoldable pub marks : List ℕ → List ℕ → Layout → List ℕ → Scope → Type 0
marks W A₀ l A e = distance A (entry_module (snap_of W A₀ l) e) ≤ 1

pub marks_down : (W A₀ : List ℕ) (l : Layout) (A B : List ℕ) → Lowers A B → (e : Scope) → marks W A₀ l A e → marks W A₀ l B e
unfolding marks
marks_down W A₀ l A B f e q = let a = distances_less f (entry_module (snap_of W A₀ l) e) in omega arith

pub marked_named : (W A₀ : List ℕ) (l : Layout) (c : ℕ) (A : List ℕ)
    → Each (λ e. is_module_entry (snap_of W A₀ l) c e ≡ true → marks W A₀ l A e) (snap_of W A₀ l).scopes
    → Each (Named (snap_of W A₀ l) (distance A) c) (snap_of W A₀ l).scopes
unfolding marks Named
marked_named W A₀ l c A h =
    each_map (λ e q m o i. let x = module_entry (snap_of W A₀ l) e c m o i in subst (λ y. distance A y ≤ 1) x.1 (q x.0)) h

-- Of the entries of c for modules: what is so, by module and owner, of those that the viewer can import is so of all whose module it can import
-- from c, since the lookup gives one of the former.
pub imported_each : (s : Snapshot) (x : FindPathCtx) (P : ℕ → ℕ → Type 0) (c : ℕ)
    → Each (λ e. is_module_entry s c e ≡ true → is_importable s x e ≡ true → P (entry_module s e) e.owner) s.scopes
    → Each (λ e. is_module_entry s c e ≡ true → imports s x (entry_module s e) e.owner ≡ true → P (entry_module s e) e.owner) s.scopes
unfolding imports
imported_each s x P c all =
    each_map
    (λ e _ t i.
    let m = entry_module s e in
    let (y, k) = some_is (importable_name s x (module_item m) e.owner) i in
    let f = import_for s x (λ z. is_module_entry s c z ≡ true → is_importable s x z ≡ true → P (entry_module s z) z.owner) all e.owner m y k in
    let o = eqb-true e.owner c (and_left _ _ t) in
    let g = module_entry s y c m (f.1 ∙ o) f.2 in
    let p = f.0 g.0 (import_passes s x (module_item m) e.owner y k) in
    subst (λ z. P z e.owner) g.1 (subst (P (entry_module s y)) f.1 p))
    all

-- a module with a keyword is the viewer's or its parent
module _ (s : Snapshot) (x : FindPathCtx) where
  kind_of_some : (m : ℕ) (o : Option ℕ) → (keyword_of s x o).found ≡ true → (k : ℕ) × (o ≡ Some k)
  unfolding keyword_of
  kind_of_some m None h = absurd (false≢true h)
  kind_of_some m (Some k) h = (k, refl)

  parent_some : (m p k : ℕ) → parent_kind s x m p ≡ Some k → p ≡ suc m
  unfolding parent_kind
  parent_some m zero k h = let z : ◌≡◌ {A = ℕ} 0 1 = cc in absurd (omega arith)
  parent_some m (suc p) k h =
      by_test (eqb m p) (λ t. ap suc (sym (eqb-true m p t)))
      (λ t. let g : None ≡ Some k = rw (parent_kind, t) at h in let z : ◌≡◌ {A = ℕ} 0 1 = cc in absurd (omega arith))

  keyword_some : (m k : ℕ) → is_kw_kind_relative_to_from s x m ≡ Some k → (m ≡ x.from.0) ⊎ (parent_of s x.from.0 ≡ suc m)
  unfolding is_kw_kind_relative_to_from
  keyword_some m k h =
      by_test (not (eqb (crate_of s m) (crate_of s x.from.0)) || (in_block s m || in_block s x.from.0))
      (λ t. let g : None ≡ Some k = rw (is_kw_kind_relative_to_from, t) at h in let z : ◌≡◌ {A = ℕ} 0 1 = cc in absurd (omega arith))
      (λ t. by_test (eqb m x.from.0) (λ u. inl (eqb-true m x.from.0 u))
      (λ u. inr (parent_some m (parent_of s x.from.0) k (rw (is_kw_kind_relative_to_from, t, u) at h))))

  pub keyword_cases : (m : ℕ) → is_keyword s x m ≡ true → (m ≡ x.from.0) ⊎ (parent_of s x.from.0 ≡ suc m)
  keyword_cases m h = let (k, e) = kind_of_some m (is_kw_kind_relative_to_from s x m) h in keyword_some m k e

  -- the numbers of both
  module _ (d : ℕ → ℕ) where
    pub keywords_one : (is_keyword s x x.from.0 ≡ true → d x.from.0 ≤ 1) → parent_of s x.from.0 ≡ 0 → (m : ℕ)
        → is_keyword s x m ≡ true → d m ≤ 1
    keywords_one f n m h =
        ⊎_elim (λ e. subst (λ y. d y ≤ 1) (sym e) (f (subst (λ y. is_keyword s x y ≡ true) e h))) (λ e. absurd (omega arith)) (keyword_cases m h)

    pub keywords_two : {p : ℕ} (d' : ℕ → ℕ) → parent_of s x.from.0 ≡ suc p → ((m : ℕ) → d m ≤ d' m)
        → (is_keyword s x x.from.0 ≡ true → d' x.from.0 ≤ 1) → (is_keyword s x p ≡ true → d p ≤ 1) → (m : ℕ) → is_keyword s x m ≡ true → d m ≤ 1
    keywords_two {p} d' n less f g m h =
        ⊎_elim
        (λ e. let a = f (subst (λ y. is_keyword s x y ≡ true) e h) in let b = less x.from.0 in subst (λ y. d y ≤ 1) (sym e) (omega arith))
        (λ e. let q : m ≡ p = omega arith in subst (λ y. d y ≤ 1) (sym q) (g (subst (λ y. is_keyword s x y ≡ true) q h))) (keyword_cases m h)

-- the parent is a module
pub parent_known : (W A : List ℕ) (l : Layout) → Reads W A l → (m : ℕ) → m < l.modules → {p : ℕ} → parent_of (snap_of W A l) m ≡ suc p → p < l.modules
parent_known W A l r m h e =
    let S = snap_of W A l in
    let n = length_modules W A l in
    let f = (parent_fits S (accepted_tree W S r.same) m _ (rw n h) e).0 in
    omega arith

-- the scopes around the viewing module's blocks
abbrev pub AllNamed : List ℕ → List ℕ → Layout → List ℕ → ℕ → Type 0
AllNamed W A₀ l A a = Each (Named (snap_of W A₀ l) (distance A) a) (snap_of W A₀ l).scopes

pub record Climbing (W A₀ : List ℕ) (l : Layout) (from : ℕ) (A : List ℕ) (m : ℕ) : Type 0 where
  pub lowers : Lowers A₀ A
  pub size : length A ≡ length A₀
  pub known : m < l.modules
  pub rest : (B : List ℕ) → Lowers A B → Each (AllNamed W A₀ l B) (ancestor_maps (snap_of W A₀ l) m)
      → Each (AllNamed W A₀ l B) (ancestor_maps (snap_of W A₀ l) from)

pub climbing_start : (W A : List ℕ) (l : Layout) (from : ℕ) → from < l.modules → Climbing W A l from A from
climbing_start W A l from h = record { lowers = lowers_same A; size = refl; known = h; rest = λ B f g. g }

module _ (W A₀ : List ℕ) (l : Layout) (r : Reads W A₀ l) (from : ℕ) (A : List ℕ) (m : ℕ) (v : Climbing W A₀ l from A m)
    (B : List ℕ) (f : Lowers A B × Each (Named (snap_of W A l) (distance B) m) (snap_of W A l).scopes) (z : length B ≡ length A) where
  abbrev S₀ : Snapshot
  S₀ = snap_of W A₀ l

  falls : Falls (block_of S₀) (length S₀.modules)
  falls = block_falls S₀ (accepted_tree W S₀ r.same)

  here : AllNamed W A₀ l B m
  here = subst (λ (s : Snapshot). Each (Named s (distance B) m) s.scopes) (lowers_snap W l v.lowers r) f.1

  here_after : (C : List ℕ) → Lowers B C → AllNamed W A₀ l C m
  here_after C g = all_less S₀ (distance B) (distance C) (distances_less g) m here

  pub climbing_lowers : Lowers A₀ B
  climbing_lowers = lowers_then v.lowers f.0

  module _ {b : ℕ} (e : b ≡ block_of (snap_of W B l) m) where
    block_same : b ≡ block_of S₀ m
    block_same = e ∙ ap (λ (s : Snapshot). block_of s m) (lowers_snap W l climbing_lowers r)

    steps_at : steps (block_of S₀) m ≡ steps_or (steps (block_of S₀)) b
    steps_at = steps_more (block_of S₀) (length S₀.modules) falls m (rw (length_modules W A₀ l) v.known)
        ∙ ap (steps_or (steps (block_of S₀))) (sym block_same)

    pub climbing_less : {p : ℕ} → b ≡ suc p → p < m
    climbing_less {p} n = falls m p (rw (length_modules W A₀ l) v.known) (sym block_same ∙ n)

    pub climbing_next : {p : ℕ} → b ≡ suc p → Climbing W A₀ l from B p
    unfolding ancestor_maps steps_or
    climbing_next {p} n =
        let q : steps (block_of S₀) m ≡ p ∷ steps (block_of S₀) p = steps_at ∙ ap (steps_or (steps (block_of S₀))) n in
        record {
          lowers = climbing_lowers;
          size = z ∙ v.size;
          known = let a = climbing_less n in let k = v.known in omega arith;
          rest = λ C g h. v.rest C (lowers_then f.0 g) (more (here_after C g) (subst (Each (AllNamed W A₀ l C)) (sym q) h));
        }

    pub climbing_done : b ≡ 0 → Lowers A₀ B × Each (AllNamed W A₀ l B) (ancestor_maps S₀ from)
    unfolding ancestor_maps steps_or
    climbing_done n =
        let q : steps (block_of S₀) m ≡ [] = steps_at ∙ ap (steps_or (steps (block_of S₀))) n in
        (climbing_lowers, v.rest B f.0 (more here (subst (Each (AllNamed W A₀ l B)) (sym q) Each.none)))

-- the prelude's scope
module _ (W A : List ℕ) (l : Layout) (from : ℕ) where
  abbrev P₀ : Option Prelude
  P₀ = prelude_of (snap_of W A l) (map_no (snap_of W A l) from)

  pub no_prelude_lem : {k : ℕ} {o : Option Prelude} → k ≡ map_no (snap_of W A l) from → o ≡ prelude_of (snap_of W A l) k → o ≡ None
      → (p : Prelude) → P₀ ≡ Some p → AllNamed W A l A p.target
  no_prelude_lem {k} e f n p h =
      let g : None ≡ Some p = sym n ∙ f ∙ ap (prelude_of (snap_of W A l)) e ∙ h in
      let w : ◌≡◌ {A = ℕ} 0 1 = cc in absurd (omega arith)

  pub one_prelude : {k t : ℕ} {o : Option Prelude} (q : Prelude) (B : List ℕ) → k ≡ map_no (snap_of W A l) from
      → o ≡ prelude_of (snap_of W A l) k → o ≡ Some q → t ≡ q.target
      → AllNamed W A l B t → (p : Prelude) → P₀ ≡ Some p → AllNamed W A l B p.target
  one_prelude {k} {t} q B e f n u h p g =
      let j : Some q ≡ Some p = sym n ∙ f ∙ ap (prelude_of (snap_of W A l)) e ∙ g in
      let same : q ≡ p = cc in
      subst (AllNamed W A l B) (u ∙ ap (λ (y : Prelude). y.target) same) h

-- the rules, one after the other
module _ (W A₀ : List ℕ) (l : Layout) (x : FindPathCtx) (y : Ready W A₀ l) (A : List ℕ) (f : Cleared A₀ l.modules A) (z : length A ≡ length A₀) where
  pub ready_cleared : Ready W A l
  ready_cleared = record { reads = same_reads W A₀ A l f.tables y.reads; area = z ∙ y.area }

module _ (W A₀ : List ℕ) (l : Layout) (x : FindPathCtx) (y : Ready W A₀ l) (A₁' : List ℕ) (f₁' : Cleared A₀ l.modules A₁')
    (z₁' : length A₁' ≡ length A₀)
    (A₁ : List ℕ) (f₁ : Lowers A₁' A₁ × Rooted (snap_of W A₁' l) l A₁) (z₁ : length A₁ ≡ length A₁') where
  abbrev T : List ℕ → Snapshot
  T A = snap_of W A l

  pub ready_roots : Ready W A₁ l
  ready_roots = lowers_ready W l f₁.0 (ready_cleared W A₀ l x y A₁' f₁' z₁') z₁

  tables₁ : take table_words A₁ ≡ take table_words A₀
  tables₁ = f₁.0.tables ∙ f₁'.tables

  far₁ : (m : ℕ) → m < l.modules → (0 < distance A₁ m) × (distance A₁ m ≤ 16)
  far₁ = lowers_far W l f₁.0 (λ m h. let a = f₁'.all m h in (omega arith, omega arith))

  roots₁ : (m : ℕ) → m < l.modules → crate_root (T A₀) m ≡ m → distance A₁ m ≤ 1
  roots₁ = root_one W A₀ l y.reads (distance A₁)
      (λ c h. subst (λ (s : Snapshot). distance A₁ (root_of s (own_map s c)) ≤ 1) (same_snap W A₀ A₁' l f₁'.tables y.reads) (f₁.1 c h))

  module _ (A₂ : List ℕ) (f₂ : Lowers A₁ A₂ × ((m : ℕ) → is_keyword (T A₁) x m ≡ true → distance A₂ m ≤ 1)) (z₂ : length A₂ ≡ length A₁) where
    pub ready_keywords : Ready W A₂ l
    ready_keywords = lowers_ready W l f₂.0 ready_roots z₂

    module _ (A₃ : List ℕ)
        (f₃ : Lowers A₂ A₃ × ((p : Prelude) → prelude_of (T A₂) (map_no (T A₂) x.from.0) ≡ Some p
        → Each (Named (T A₂) (distance A₃) p.target) (T A₂).scopes))
        (z₃ : length A₃ ≡ length A₂) where
      pub ready_prelude : Ready W A₃ l
      ready_prelude = lowers_ready W l f₃.0 ready_keywords z₃

      same₁ : T A₁ ≡ T A₀
      same₁ = same_snap W A₀ A₁ l tables₁ y.reads

      same₂ : T A₂ ≡ T A₀
      same₂ = lowers_snap W l f₂.0 ready_roots.reads ∙ same₁

      same₃ : T A₃ ≡ T A₀
      same₃ = lowers_snap W l f₃.0 ready_keywords.reads ∙ same₂

      marked : (A : List ℕ) → Lowers A₃ A
          → (may_be_in_scope (T A₀) x ≡ true → Each (λ a. Each (Named (T A₀) (distance A) a) (T A₀).scopes) (ancestor_maps (T A₀) x.from.0))
          → Marked W A₀ l x A
      marked A g scope =
          let h₃ = lowers_then f₃.0 g in
          let h₂ = lowers_then f₂.0 h₃ in
          record {
            far = lowers_far W l h₂ far₁;
            answers =
                ruled_one (T A₀) x l.modules (distance A)
                (record {
                  roots = λ m b e. let p = roots₁ m b e in let q = distances_less h₂ m in omega arith;
                  keywords = λ m e. let p = f₂.1 m (subst (λ (s : Snapshot). is_keyword s x m ≡ true) (sym same₁) e) in let q =
                      distances_less h₃ m in omega arith;
                  scope = scope;
                  prelude = λ p e.
                      all_less (T A₀) (distance A₃) (distance A) (distances_less g) p.target
                      (subst (λ (s : Snapshot). prelude_of s (map_no s x.from.0) ≡ Some p
                      → Each (Named s (distance A₃) p.target) s.scopes) same₂ (f₃.1 p) e);
                });
            tables = h₂.tables ∙ tables₁;
          }

      pub marked_none : {b : Bool} → b ≡ may_be_in_scope (T A₀) x → b ≡ false → Marked W A₀ l x A₃
      marked_none e n = marked A₃ (lowers_same A₃) (λ t. absurd (true≢false (sym t ∙ sym e ∙ n)))

      pub marked_scopes : (A : List ℕ) → Lowers A₃ A × Each (λ a. Each (Named (T A₃) (distance A) a) (T A₃).scopes)
          (ancestor_maps (T A₃) x.from.0) → Marked W A₀ l x A
      marked_scopes A g =
          marked A g.0 (λ t. subst (λ (s : Snapshot). Each (λ a. Each (Named s (distance A) a) s.scopes) (ancestor_maps s x.from.0))
          same₃ g.1)
