-- The number of turns hidden: the walk over the worklist takes the same modules with any number of turns that is enough.
use mathlib.Core.Path.{◌≡◌, refl, ap, sym, ◌∙◌}
use Prim.Native.Nat.{ℕ, zero, suc, ◌+◌, ◌≤◌}
use native.Mathlib.Omega.{arith}
use mathlib.Core.List.{List, [], ◌∷◌, ◌++◌}
use mathlib.Core.Bool.{Bool, true, false, ◌&&◌, ◌||◌, not, or-false, or_assoc, true≢false, or-true}
use lib.Dec.{eqb}
use lib.ListN.{length, length-append, length-map}
use borrow.Author.Tests.{eq-eqb, ne_eqb, eqb-true, eqb-false}
use Rattle.snapshot.specs.Lists.{any}
use Rattle.snapshot.specs.Records.{Snapshot, Scope}
use Rattle.hir_def.specs.Finds.{select}
use Rattle.hir_def.specs.Items.{crate_of, definition_of}
use Rattle.module_tree.specs.rules.Visibility.{sees}
use Rattle.hir_def.specs.ItemScope.{modules_in_scope, entry_module}
use Rattle.find_path_spec.specs.Walk.{has, start_from, leads_to, unmet, walk, find_local_import_locations}

or_none_lem : (a b : Bool) → a || b ≡ false → b ≡ false
or_none_lem true b e = absurd (true≢false e)
or_none_lem false b e = e

module _ {A : Type 0} (p : A → Bool) where
  pub select_hit : (e : A) (es : List A) → p e ≡ true → select p (e ∷ es) ≡ e ∷ select p es
  unfolding select
  select_hit e es h = rw (select, h)

  pub select_miss : (e : A) (es : List A) → p e ≡ false → select p (e ∷ es) ≡ select p es
  unfolding select
  select_miss e es h = rw (select, h)

  short_step : (e : A) (es : List A) → length (select p es) ≤ length es → (t : Bool) → p e ≡ t → length (select p (e ∷ es)) ≤ length (e ∷ es)
  short_step e es h true k = rw (select_hit e es k) (omega arith)
  short_step e es h false k = rw (select_miss e es k) (omega arith)

  pub select_short : (es : List A) → length (select p es) ≤ length es
  unfolding select
  select_short [] = omega arith
  select_short (e ∷ es) = short_step e es (select_short es) (p e) refl

pub has_snoc : (d : List ℕ) (m n : ℕ) → has (d ++ (m ∷ [])) n ≡ (has d n || eqb n m)
unfolding has any
has_snoc [] m n = or-false (eqb n m)
has_snoc (x ∷ d) m n = rw (has_snoc d m n) (sym (or_assoc (eqb n x) (has d n) (eqb n m)))

pub unmet_short : (seen : ℕ → Bool) (d ms : List ℕ) → length (unmet seen d ms) ≤ length ms
unfolding unmet
unmet_short seen d ms = select_short _ ms

-- `size` is what the modules not taken yet can still add: it falls by what a module leads to, when that is taken.
module _ (next : ℕ → List ℕ) (seen : ℕ → Bool) (size : List ℕ → ℕ)
    (falls : (d : List ℕ) (m : ℕ) → has d m ≡ false → size (d ++ (m ∷ [])) + length (next m) ≤ size d) where
  pub walk_skip : (b : ℕ) (d : List ℕ) (m : ℕ) (ws : List ℕ) → seen m || has d m ≡ true → walk next seen (suc b) d (m ∷ ws) ≡ walk next seen b d ws
  unfolding walk
  walk_skip b d m ws e = rw (walk, e)

  pub walk_take : (b : ℕ) (d : List ℕ) (m : ℕ) (ws : List ℕ) → seen m || has d m ≡ false
      → walk next seen (suc b) d (m ∷ ws) ≡ walk next seen b (d ++ (m ∷ [])) (ws ++ unmet seen (d ++ (m ∷ [])) (next m))
  unfolding walk
  walk_take b d m ws e = rw (walk, e)

  walk_end_lem : (b : ℕ) (d : List ℕ) → walk next seen b d [] ≡ d
  unfolding walk
  walk_end_lem zero d = refl
  walk_end_lem (suc b) d = refl

  abbrev More : ℕ → Type 0
  More b = (c : ℕ) (d ws : List ℕ) → length ws + size d ≤ b → length ws + size d ≤ c → walk next seen b d ws ≡ walk next seen c d ws

  more_step : (b c : ℕ) (d : List ℕ) (m : ℕ) (ws : List ℕ) → More b → length (m ∷ ws) + size d ≤ suc b → length (m ∷ ws) + size d ≤ suc c
      → (t : Bool) → seen m || has d m ≡ t → walk next seen (suc b) d (m ∷ ws) ≡ walk next seen (suc c) d (m ∷ ws)
  more_step b c d m ws ih h k true e =
      walk_skip b d m ws e ∙ ih c d ws (omega arith) (omega arith) ∙ sym (walk_skip c d m ws e)
  more_step b c d m ws ih h k false e =
      let d' = d ++ (m ∷ []) in
      let u = unmet seen d' (next m) in
      let l : length (ws ++ u) ≡ length ws + length u = length-append ws u in
      let o : length u ≤ length (next m) = unmet_short seen d' (next m) in
      let q : size d' + length (next m) ≤ size d = falls d m (or_none_lem (seen m) (has d m) e) in
      walk_take b d m ws e ∙ ih c d' (ws ++ u) (omega arith) (omega arith) ∙ sym (walk_take c d m ws e)

  pub walk_more : (b : ℕ) → More b
  walk_more zero c d [] h k = walk_end_lem 0 d ∙ sym (walk_end_lem c d)
  walk_more zero c d (m ∷ ws) h k = absurd (omega arith)
  walk_more (suc b) zero d [] h k = walk_end_lem (suc b) d ∙ sym (walk_end_lem 0 d)
  walk_more (suc b) zero d (m ∷ ws) h k = absurd (omega arith)
  walk_more (suc b) (suc c) d [] h k = walk_end_lem (suc b) d ∙ sym (walk_end_lem (suc c) d)
  walk_more (suc b) (suc c) d (m ∷ ws) h k = more_step b c d m ws (walk_more b) h k (seen m || has d m) refl

-- the scope records of modules that are not in the list
abbrev pub untaken : List Scope → List ℕ → ℕ
untaken es d = length (select (λ e. not (has d e.owner)) es)

module _ (d : List ℕ) (m : ℕ) (new : has d m ≡ false) (p : Scope → Bool) where
  abbrev Sum : List Scope → Type 0
  Sum es = untaken es (d ++ (m ∷ [])) + length (select (λ e. eqb e.owner m && p e) es) ≤ untaken es d

  sum_own : (e : Scope) (es : List Scope) → Sum es → e.owner ≡ m → Sum (e ∷ es)
  sum_own e es ih q =
      let in' : has (d ++ (m ∷ [])) e.owner ≡ true = has_snoc d m e.owner ∙ rw (eq-eqb e.owner m q) (or-true (has d e.owner)) in
      let out : has d e.owner ≡ false = ap (has d) q ∙ new in
      let s = select_short_one e es in
      rw (select_miss (λ z. not (has (d ++ (m ∷ [])) z.owner)) e es (rw in'), select_hit (λ z. not (has d z.owner)) e es (rw out)) (omega arith)
    where
      select_short_one : (e : Scope) (es : List Scope)
          → length (select (λ e. eqb e.owner m && p e) (e ∷ es)) ≤ suc (length (select (λ e. eqb e.owner m && p e) es))
      select_short_one e es = one (eqb e.owner m && p e) refl
        where
          one : (t : Bool) → eqb e.owner m && p e ≡ t
              → length (select (λ e. eqb e.owner m && p e) (e ∷ es)) ≤ suc (length (select (λ e. eqb e.owner m && p e) es))
          one true k = rw (select_hit (λ e. eqb e.owner m && p e) e es k) (omega arith)
          one false k = rw (select_miss (λ e. eqb e.owner m && p e) e es k) (omega arith)

  sum_other : (e : Scope) (es : List Scope) → Sum es → (e.owner ≡ m → ⊥) → (t : Bool) → has d e.owner ≡ t → Sum (e ∷ es)
  sum_other e es ih q t k =
      let no : eqb e.owner m ≡ false = ne_eqb e.owner m q in
      let same : has (d ++ (m ∷ [])) e.owner ≡ has d e.owner = has_snoc d m e.owner ∙ rw no (or-false (has d e.owner)) in
      rw (select_miss (λ z. eqb z.owner m && p z) e es (rw no)) (by t k same)
    where
      by : (t : Bool) → has d e.owner ≡ t → has (d ++ (m ∷ [])) e.owner ≡ has d e.owner
          → untaken (e ∷ es) (d ++ (m ∷ [])) + length (select (λ z. eqb z.owner m && p z) es) ≤ untaken (e ∷ es) d
      by true k same =
          rw (select_miss (λ z. not (has (d ++ (m ∷ [])) z.owner)) e es (rw (same, k)), select_miss (λ z. not (has d z.owner)) e es (rw k)) ih
      by false k same =
          rw (select_hit (λ z. not (has (d ++ (m ∷ [])) z.owner)) e es (rw (same, k)), select_hit (λ z. not (has d z.owner)) e es (rw k))
          (omega arith)

  sum_step : (e : Scope) (es : List Scope) → Sum es → (t : Bool) → eqb e.owner m ≡ t → Sum (e ∷ es)
  sum_step e es ih true k = sum_own e es ih (eqb-true e.owner m k)
  sum_step e es ih false k = sum_other e es ih (eqb-false e.owner m k) (has d e.owner) refl

  pub untaken_falls : (es : List Scope) → Sum es
  unfolding select
  untaken_falls [] = omega arith
  untaken_falls (e ∷ es) = sum_step e es (untaken_falls es) (eqb e.owner m) refl

untaken_all : (es : List Scope) → untaken es [] ≡ length es
unfolding select has any
untaken_all [] = refl
untaken_all (e ∷ es) = ap suc (untaken_all es)

module _ (s : Snapshot) (from : ℕ) where
  pub leads_fall : (d : List ℕ) (m : ℕ) → has d m ≡ false → untaken s.scopes (d ++ (m ∷ [])) + length (leads_to s from m) ≤ untaken s.scopes d
  unfolding leads_to modules_in_scope
  leads_fall d m new =
      let a = untaken_falls d m new (λ e. eqb e.ns 0 && eqb (definition_of s e.definition).kind 1) s.scopes in
      let b = select_short (λ e. eqb (crate_of s (entry_module s e)) (crate_of s from) && sees s from e) (modules_in_scope s m) in
      rw length-map (omega arith)

  -- The local walk does not depend on its number of turns.
  pub locations_more : (seen : ℕ → Bool) (b : ℕ) → length (start_from s from) + length s.scopes ≤ b
      → walk (leads_to s from) seen b [] (start_from s from) ≡ find_local_import_locations s from seen
  unfolding find_local_import_locations
  locations_more seen b h =
      let a = untaken_all s.scopes in
      walk_more (leads_to s from) seen (untaken s.scopes) leads_fall b (length (start_from s from) + length s.scopes) [] (start_from s from)
      (omega arith) (omega arith)
