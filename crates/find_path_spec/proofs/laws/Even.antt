-- Even modules: whatever way a local search comes to one, its answer has the same flag for `prelude`.
use mathlib.Core.Path.{◌≡◌, refl, ap, sym, ◌∙◌}
use Prim.Native.Nat.{ℕ, zero, suc, ◌≤◌, ◌<◌}
use native.Mathlib.Omega.{arith}
use mathlib.Core.List.{List, [], ◌∷◌, ◌++◌}
use mathlib.Core.Bool.{Bool, true, false, ◌||◌, true≢false, false≢true}
use mathlib.Core.Logic.{◌⊎◌, ⊎_elim}
use Rattle.std.specs.Prelude.{Some}
use borrow.Author.Tests.{eq-eqb}
use Rattle.snapshot.specs.Records.{Snapshot, Scope}
use Rattle.hir_def.specs.Items.{module_item}
use Rattle.find_path_choice.specs.Choices.{Choice}
use Rattle.find_path_spec.specs.declared.FindPathCtx.{FindPathCtx}
use Rattle.find_path_choice.specs.Choices.{is_prelude, nothing, length_left, extended, push}
use Rattle.find_path_spec.specs.Walk.{Level, has}
use Rattle.find_path_spec.specs.Rules.{module_rules}
use Rattle.find_path_spec.specs.Local.{LocalSearch, importable_name, location, calculate_best_path_local, or_local, find_path_for_module_local}
use Rattle.find_path_spec.specs.Search.{local_to, search_local}
use Rattle.find_path_spec.specs.laws.Near.{is_some, ruled, locations, imports, near}
use Rattle.find_path_spec.proofs.laws.Unfold.{length_falls}
use Rattle.find_path_spec.proofs.laws.Walks.{has_snoc}
use Rattle.find_path_spec.proofs.laws.Fewer.{or_left, or_right}
use Rattle.find_path_spec.proofs.laws.Near.{Location, near_later, near_none, Sound, to_near}
use Rattle.find_path_spec.proofs.laws.Frames.{fewer_locations}
use Rattle.find_path_spec.proofs.laws.Loops.{locations_once, select_by, location_by, each_by}

module _ (s : Snapshot) (x : FindPathCtx) where
  -- the module is near with the most that may be left
  abbrev pub Reached : ℕ → ℕ → Type 0
  Reached most m = near s x [] most m ≡ true

  -- E is a set of even modules, and v the flag of each, for searches with at most so much left
  pub record Even (most : ℕ) (E : ℕ → Type 0) (v : ℕ → Bool) : Type 0 where
    pub rule : (m : ℕ) → E m → ruled s x m ≡ true → (module_rules s x false m).has_prelude_segment ≡ v m
    pub goes : (m c : ℕ) → E m → ruled s x m ≡ false → Location s x [] m c → Reached most c → E c
    pub first : (m c : ℕ) (e : Scope) → E m → ruled s x m ≡ false → Location s x [] m c → Reached most c
        → importable_name s x (module_item m) c ≡ Some e → v c || is_prelude s e.name ≡ v m
    -- a location with another flag is the only one
    pub later : (m c : ℕ) → E m → ruled s x m ≡ false → Location s x [] m c → Reached most c
        → (v c ≡ v m) ⊎ ((n : ℕ) → Location s x [] m n → Reached most n → n ≡ c)

  module _ (most : ℕ) (E : ℕ → Type 0) (v : ℕ → Bool) (even : Even most E v) where
    abbrev pub Flagged : LocalSearch → Type 0
    Flagged rec = (left : ℕ) (ls : List Level) (m : ℕ) → left ≤ most → E m → (rec left ls m).found ≡ true → (rec left ls m).has_prelude_segment ≡ v m

    module _ (rec : LocalSearch) (sound : Sound s x rec) (flagged : Flagged rec) (l : ℕ) (b : suc l ≤ most) (ls : List Level)
        (m : ℕ) (w : E m) (r : ruled s x m ≡ false) where
      -- a found best has the flag, and came from one of the locations before
      abbrev pub Kept : List ℕ → Choice → Type 0
      Kept done best = best.found ≡ true → (c : ℕ) × (has done c ≡ true) × Location s x [] m c × Reached most c × (best.has_prelude_segment ≡ v m)

      pub kept_step : (done : List ℕ) (best : Choice) (c : ℕ) → has done c ≡ false → has (locations s x [] m) c ≡ true
          → Kept done best
          → Kept (done ++ (c ∷ [])) (location s x rec (suc l) (record { item = module_item m; modules = done ++ (c ∷ []) } ∷ ls) best c
          (importable_name s x (module_item m) c))
      unfolding imports push extended
      kept_step done best c new in' k =
          location_by s x (Kept (done ++ (c ∷ []))) rec (suc l) _ best c (importable_name s x (module_item m) c)
          (λ f. let (n, h, at, q, p) = k f in (n, has_snoc done c n ∙ or_left _ _ h, at, q, p))
          (λ e i f.
          let at : Location s x [] m c = record { taken = in'; entry = ap is_some i } in
          let less : length_left (suc l) best < suc l = length_falls (suc l) best (omega arith) in
          let q : Reached most c = near_later s x [] (length_left (suc l) best) most c (omega arith) (near_none s x _ _ c (sound _ _ c f)) in
          let p = flagged _ _ c (omega arith) (even.goes m c w r at q) f in
          let here : has (done ++ (c ∷ [])) c ≡ true = has_snoc done c c ∙ or_right (has done c) _ (eq-eqb c c refl) in
          select_by s x (Kept (done ++ (c ∷ []))) best _ e.name _
          (λ o _. (c, here, at, q, ap (λ z. z || is_prelude s e.name) p ∙ even.first m c e w r at q i))
          (λ o _ _. (
            c,
            here,
            at,
            q,
            p
                ∙ ⊎_elim (λ z. z) (λ z. let (n, h, at', q', _) = k o in absurd (true≢false (sym h ∙ ap (has done) (z n at' q') ∙ new)))
                (even.later m c w r at q),
          ))
          (λ o _ _. let (n, h, at', q', p') = k o in (n, has_snoc done c n ∙ or_left _ _ h, at', q', p')))

      loop_flag : (calculate_best_path_local s x rec (suc l) ls (module_item m)).found ≡ true → (calculate_best_path_local s x rec (suc l) ls
          (module_item m)).has_prelude_segment ≡ v m
      unfolding calculate_best_path_local
      loop_flag f =
          (each_by s x Kept rec (suc l) ls (module_item m) _ [] nothing _ kept_step (fewer_locations s x ls m) (locations_once s x.from.0 _)
          (λ o. absurd (false≢true o)) f).4

    or_flag : (rec : LocalSearch) → Sound s x rec → Flagged rec → (l : ℕ) → suc l ≤ most → (ls : List Level) (m : ℕ) → E m
        → (f : Bool) → ruled s x m ≡ f
        → (or_local s x rec (suc l) ls m (module_rules s x false m) f).found ≡ true → (or_local s x rec (suc l) ls m
        (module_rules s x false m) f).has_prelude_segment ≡ v m
    unfolding or_local
    or_flag rec sound ih l b ls m w true r f = even.rule m w r
    or_flag rec sound ih l b ls m w false r f = loop_flag rec sound ih l b ls m w r f

    to_flag : (d : ℕ) → Flagged (local_to s x d)
    unfolding local_to find_path_for_module_local
    to_flag zero left ls m b w f = absurd (false≢true f)
    to_flag (suc d) zero ls m b w f = absurd (false≢true f)
    to_flag (suc d) (suc l) ls m b w f = or_flag (local_to s x d) (to_near s x d) (to_flag d) l b ls m w _ refl f

    -- Every answer for an even module has its flag.
    pub even_flag : Flagged (search_local s x)
    unfolding search_local
    even_flag left ls m b w f = to_flag left left ls m b w f
