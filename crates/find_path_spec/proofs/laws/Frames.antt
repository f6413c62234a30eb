-- Levels that visit the same of what a local search comes to give it the same answer.
use mathlib.Core.Path.{◌≡◌, refl, ap, sym, ◌∙◌}
use Prim.Native.Nat.{ℕ, zero, suc, ◌≤◌, ◌<◌}
use native.Mathlib.Omega.{arith}
use mathlib.Core.List.{List, [], ◌∷◌, ◌++◌}
use mathlib.Core.Bool.{Bool, true, false, ◌&&◌, ◌||◌, true≢false, false≢true}
use mathlib.Core.Logic.{⊎_elim}
use Rattle.std.specs.Prelude.{Option, None, Some}
use Rattle.snapshot.specs.Lists.{any}
use Rattle.snapshot.specs.Records.{Snapshot, Scope}
use Rattle.hir_def.specs.Items.{same_item, module_item}
use Rattle.find_path_choice.specs.Choices.{Choice}
use Rattle.find_path_spec.specs.declared.FindPathCtx.{FindPathCtx}
use Rattle.find_path_choice.specs.Choices.{nothing, length_left}
use Rattle.find_path_spec.specs.Walk.{Level, has, visited}
use Rattle.find_path_spec.specs.Rules.{module_rules}
use Rattle.find_path_spec.specs.Local.{LocalSearch, offer_entry, importable_name, location, each_location, calculate_best_path_local, or_local}
use Rattle.find_path_spec.specs.Local.{find_path_for_module_local}
use Rattle.find_path_spec.specs.Search.{local_to, search_local}
use Rattle.find_path_spec.specs.laws.Near.{is_some, ruled, locations, imports, near}
use Rattle.find_path_spec.proofs.laws.Unfold.{length_falls}
use Rattle.find_path_spec.proofs.laws.Fewer.{tested, refuted, Within, has_first, has_later, walk_same, walk_fewer}
use Rattle.find_path_spec.proofs.laws.Near.{Location, near_none, to_far}

module _ (s : Snapshot) (x : FindPathCtx) where
  -- the locations under levels are locations
  pub fewer_locations : (ls : List Level) (m : ℕ) → Within (locations s x ls m) (locations s x [] m)
  unfolding visited any
  fewer_locations ls m = walk_fewer s x.from.0 _ _ (λ c h. absurd (false≢true h))

  pub far_under : (ls : List Level) (k m : ℕ) → near s x [] k m ≡ false → near s x ls k m ≡ false
  far_under ls k m e = refuted _ (λ h. true≢false (sym (near_none s x ls k m h) ∙ e))

  -- two lists of levels that visit the same of what has the property P
  abbrev pub SameFor : (ℕ → ℕ → Type 0) → ℕ → List Level → List Level → Type 0
  SameFor P left ls ls' = (l n : ℕ) → l ≤ left → P l n → ruled s x n ≡ false → (c : ℕ) → visited ls (module_item n) c ≡ visited ls' (module_item n) c

  -- P holds of what the search comes to
  module _ (P : ℕ → ℕ → Type 0)
      (goes : (l m c j : ℕ) → P (suc l) m → Location s x [] m c → j ≤ l → near s x [] j c ≡ true → P j c) where
    abbrev Framed : LocalSearch → Type 0
    Framed rec = (left : ℕ) (ls ls' : List Level) (m : ℕ) → (near s x [] left m ≡ true → P left m) → SameFor P left ls ls'
        → rec left ls m ≡ rec left ls' m

    same_put : (left j : ℕ) (level : Level) (ls ls' : List Level) → j ≤ left → SameFor P left ls ls' → SameFor P j (level ∷ ls) (level ∷ ls')
    unfolding visited any
    same_put left j level ls ls' h same l n k p r c = ap (λ b. same_item level.item (module_item n) && has level.modules c || b)
        (same l n (omega arith) p r c)

    module _ (rec : LocalSearch) (framed : Framed rec) (l m : ℕ) (p : P (suc l) m) (ls ls' : List Level) (same : SameFor P (suc l) ls ls') where
      location_frame : (level : Level) (best : Choice) (c : ℕ) (a : Option Scope)
          → has (locations s x [] m) c ≡ true → importable_name s x (module_item m) c ≡ a
          → location s x rec (suc l) (level ∷ ls) best c a ≡ location s x rec (suc l) (level ∷ ls') best c a
      unfolding location imports
      location_frame level best c None w e = refl
      location_frame level best c (Some e) w i =
          let j = length_left (suc l) best in
          let less : j < suc l = length_falls (suc l) best (omega arith) in
          let at : Location s x [] m c = record { taken = w; entry = ap is_some i } in
          ap (λ (z : Choice). offer_entry s x best z e)
          (framed j (level ∷ ls) (level ∷ ls') c (λ n. goes l m c j p at (omega arith) n) (same_put (suc l) j level ls ls' (omega arith) same))

      each_frame : (done : List ℕ) (best : Choice) (ms : List ℕ) → Within ms (locations s x [] m)
          → each_location s x rec (suc l) ls (module_item m) done best ms ≡ each_location s x rec (suc l) ls' (module_item m) done best ms
      unfolding each_location
      each_frame done best [] w = refl
      each_frame done best (c ∷ ms) w =
          ap (λ (z : Choice). each_location s x rec (suc l) ls (module_item m) (done ++ (c ∷ [])) z ms)
          (location_frame _ best c _ (w c (has_first c ms)) refl)
          ∙ each_frame (done ++ (c ∷ [])) _ ms (λ n h. w n (has_later c ms n h))

      or_frame : (f : Bool) → ruled s x m ≡ f
          → or_local s x rec (suc l) ls m (module_rules s x false m) f ≡ or_local s x rec (suc l) ls' m (module_rules s x false m) f
      unfolding or_local calculate_best_path_local
      or_frame true e = refl
      or_frame false e =
          each_frame [] nothing _ (fewer_locations ls m)
          ∙ ap (each_location s x rec (suc l) ls' (module_item m) [] nothing) (walk_same s x.from.0 _ _ (same (suc l) m (omega arith) p e))

    to_frame : (d : ℕ) → Framed (local_to s x d)
    unfolding local_to find_path_for_module_local
    to_frame zero left ls ls' m p same = refl
    to_frame (suc d) zero ls ls' m p same = refl
    to_frame (suc d) (suc l) ls ls' m p same =
        ⊎_elim (λ h. or_frame (local_to s x d) (to_frame d) l m (p h) ls ls' same _ refl)
        (λ h. to_far s x (suc d) (suc l) ls m (far_under ls (suc l) m h) ∙ sym (to_far s x (suc d) (suc l) ls' m (far_under ls' (suc l) m h)))
        (tested (near s x [] (suc l) m))

    -- Levels that visit the same of what the search comes to give the same answer.
    pub levels_frame : Framed (search_local s x)
    unfolding search_local
    levels_frame left ls ls' m p same = to_frame left left ls ls' m p same

  -- ... so for what is near
  pub near_frame : (left : ℕ) (ls ls' : List Level) (m : ℕ) → SameFor (λ l n. near s x [] l n ≡ true) left ls ls'
      → search_local s x left ls m ≡ search_local s x left ls' m
  near_frame left ls ls' m = levels_frame (λ l n. near s x [] l n ≡ true) (λ l m c j p at h n. n) left ls ls' m (λ h. h)

  -- A search for an item that is no module plays no part.
  pub no_module_lem : (left : ℕ) (level : Level) (ls : List Level) (m : ℕ) → ((n : ℕ) → same_item level.item (module_item n) ≡ false)
      → search_local s x left (level ∷ ls) m ≡ search_local s x left ls m
  unfolding visited any
  no_module_lem left level ls m h = near_frame left (level ∷ ls) ls m
      (λ l n _ _ _ c. ap (λ b. b && has level.modules c || visited ls (module_item n) c) (h n))
