-- What is not near is not found: a local search answers only where a chain of locations ends at a rule's answer.
use mathlib.Core.Path.{◌≡◌, refl, ap, sym, ◌∙◌}
use Prim.Native.Nat.{ℕ, zero, suc, ◌+◌, ◌≤◌, ◌<◌}
use native.Mathlib.Omega.{arith}
use mathlib.Core.List.{List, [], ◌∷◌, ◌++◌, append-nil, append_assoc}
use mathlib.Core.Bool.{Bool, true, false, ◌&&◌, ◌||◌, or_assoc, true≢false, false≢true}
use mathlib.Core.Logic.{◌⊎◌, inl, inr, ⊎_elim}
use Rattle.std.specs.Prelude.{Option, None, Some}
use lib.ListN.{take, drop, take-append-drop}
use lib.Seq.{take-add, drop-drop}
use Rattle.snapshot.specs.Lists.{any}
use Rattle.snapshot.specs.Records.{Snapshot, Scope}
use Rattle.hir_def.specs.Items.{same_item, module_item}
use Rattle.hir_def.specs.declared.Item.{Item}
use Rattle.find_path_choice.specs.Choices.{Choice}
use Rattle.find_path_spec.specs.declared.FindPathCtx.{FindPathCtx}
use Rattle.find_path_choice.specs.Choices.{nothing, length_left, better, extended, push, try_select}
use Rattle.find_path_spec.specs.Walk.{Level, has, visited}
use Rattle.find_path_spec.specs.Rules.{module_rules}
use Rattle.find_path_spec.specs.Local.{LocalSearch, offer, offer_entry, importable_name, location, each_location, calculate_best_path_local, or_local}
use Rattle.find_path_spec.specs.Local.{find_path_for_module_local}
use Rattle.find_path_spec.specs.Search.{local_to, search_local}
use Rattle.find_path_spec.specs.laws.Near.{is_some, ruled, locations, imports, near}
use Rattle.find_path_spec.proofs.laws.Unfold.{length_falls}
use Rattle.find_path_spec.proofs.laws.Fewer.{either, both, and_both, refuted, or_left, or_right, has_first, has_later, any_one, one_any, walk_fewer}

or_through : (a b c d : Bool) → (a ≡ true → b || c ≡ true) → a || d ≡ true → b || (c || d) ≡ true
or_through true b c d f e = sym (or_assoc b c d) ∙ or_left _ _ (f refl)
or_through false b c d f e = or_right b _ (or_right c d e)

-- a choice that is not found is `nothing`
abbrev pub Plain : Choice → Type 0
Plain c = c.found ≡ false → c ≡ nothing

found_plain : (c : Choice) → c.found ≡ true → Plain c
found_plain c e h = absurd (true≢false (sym e ∙ h))

module _ (s : Snapshot) (x : FindPathCtx) where
  -- Modules that hold no importable entry are only put on the level.
  pub each_skips : (rec : LocalSearch) (left : ℕ) (ls : List Level) (item : Item) (done : List ℕ) (best : Choice) (ms ms' : List ℕ)
      → ((m : ℕ) → has ms m ≡ true → importable_name s x item m ≡ None)
      → each_location s x rec left ls item done best (ms ++ ms') ≡ each_location s x rec left ls item (done ++ ms) best ms'
  unfolding each_location location
  each_skips rec left ls item done best [] ms' h = rw (append-nil done)
  each_skips rec left ls item done best (m ∷ ms) ms' h =
      let level : Level = record { item = item; modules = done ++ (m ∷ []) } in
      ap (λ (a : Option Scope). each_location s x rec left ls item (done ++ (m ∷ [])) (location s x rec left (level ∷ ls) best m a) (ms ++ ms'))
      (h m (has_first m ms))
      ∙ each_skips rec left ls item (done ++ (m ∷ [])) best ms ms' (λ n k. h n (has_later m ms n k)) ∙ rw append_assoc

  -- So the loop goes on at the next place that holds one.
  pub each_jumps : (rec : LocalSearch) (left : ℕ) (ls : List Level) (item : Item) (best : Choice) (w : List ℕ) (i n : ℕ)
      → ((m : ℕ) → has (take n (drop i w)) m ≡ true → importable_name s x item m ≡ None)
      → each_location s x rec left ls item (take i w) best (drop i w) ≡ each_location s x rec left ls item (take (i + n) w) best (drop (i + n) w)
  each_jumps rec left ls item best w i n h =
      ap (each_location s x rec left ls item (take i w) best) (sym (take-append-drop n (drop i w)))
      ∙ each_skips rec left ls item (take i w) best (take n (drop i w)) (drop n (drop i w)) h
      ∙ rw (take-add i n w, drop-drop n i w)

  -- Of a choice and an offer one is found.
  chosen : (f b : Bool) (best a c : Choice) → best.found ≡ f → a.found ≡ true → c.found ≡ true
      → (elim f as (λ _. Choice) [ true ↦ elim b [ true ↦ a | false ↦ best ] | false ↦ c ]).found ≡ true
  chosen true true best a c e h k = h
  chosen true false best a c e h k = e
  chosen false b best a c e h k = k

  try_found : (best c : Choice) (n t : ℕ) → (try_select s x.prefer_prelude best c n t).found ≡ true
  unfolding try_select push extended
  try_found best c n t = chosen best.found (better s x.prefer_prelude best c n) best _ _ refl refl refl

  -- an offer of a search that found nothing changes nothing
  pub offer_cases : (best c : Choice) (e : Scope) (f : Bool) → c.found ≡ f
      → ((f ≡ true) × ((offer_entry s x best c e).found ≡ true)) ⊎ ((f ≡ false) × (offer_entry s x best c e ≡ best))
  unfolding offer_entry offer
  offer_cases best c e true h = inl (refl, rw (offer, h) (try_found best c _ _))
  offer_cases best c e false h = inr (refl, rw (offer, h))

  module _ (rec : LocalSearch) (left : ℕ) where
    location_plain : (ls : List Level) (best : Choice) (m : ℕ) (a : Option Scope) → Plain best → Plain (location s x rec left ls best m a)
    unfolding location
    location_plain ls best m None h = h
    location_plain ls best m (Some e) h =
        ⊎_elim (λ f. found_plain _ f.1) (λ f. rw f.1 h) (offer_cases best (rec (length_left left best) ls m) e _ refl)

    each_plain : (ls : List Level) (item : Item) (done : List ℕ) (best : Choice) (ms : List ℕ) → Plain best
        → Plain (each_location s x rec left ls item done best ms)
    unfolding each_location
    each_plain ls item done best [] h = h
    each_plain ls item done best (m ∷ ms) h = each_plain ls item (done ++ m ∷ []) _ ms (location_plain _ best m _ h)

    or_plain : (ls : List Level) (m : ℕ) (c : Choice) (f : Bool) → c.found ≡ f → Plain (or_local s x rec left ls m c f)
    unfolding or_local calculate_best_path_local
    or_plain ls m c true e = found_plain c e
    or_plain ls m c false e = each_plain ls (module_item m) [] nothing _ (λ _. refl)

  to_plain : (d left : ℕ) (ls : List Level) (m : ℕ) → Plain (local_to s x d left ls m)
  unfolding local_to find_path_for_module_local
  to_plain zero left ls m h = refl
  to_plain (suc d) zero ls m h = refl
  to_plain (suc d) (suc l) ls m h = or_plain (local_to s x d) (suc l) ls m _ _ refl h

  -- A local search that has not found is `nothing`.
  pub unfound_nothing : (left : ℕ) (ls : List Level) (m : ℕ) → (search_local s x left ls m).found ≡ false → search_local s x left ls m ≡ nothing
  unfolding search_local
  unfound_nothing left ls m = to_plain left left ls m

  -- c is a location of m past the levels: the walk takes it, and the viewer can import m from it
  pub record Location (ls : List Level) (m c : ℕ) : Type 0 where
    pub taken : has (locations s x ls m) c ≡ true
    pub entry : imports s x m c ≡ true

  pub near_rule : (ls : List Level) (k m : ℕ) → ruled s x m ≡ true → near s x ls (suc k) m ≡ true
  unfolding near
  near_rule ls k m e = or_left _ _ e

  pub near_step : (ls : List Level) (k m c : ℕ) → Location ls m c → near s x ls k c ≡ true → near s x ls (suc k) m ≡ true
  unfolding near
  near_step ls k m c a h = or_right (ruled s x m) _ (one_any _ _ c a.taken (and_both _ _ a.entry h))

  -- a module is near by a rule or by a location that is nearer
  pub near_cases : (ls : List Level) (k m : ℕ) → near s x ls (suc k) m ≡ true
      → (ruled s x m ≡ true) ⊎ ((c : ℕ) × Location ls m c × (near s x ls k c ≡ true))
  unfolding near
  near_cases ls k m e =
      ⊎_elim (λ h. inl h)
      (λ h.
      let (c, a, b) = any_one _ _ h in
      let (i, n) = both (imports s x m c) _ b in
      inr (c, record { taken = a; entry = i }, n))
      (either (ruled s x m) _ e)

  -- What is near is near with more left.
  pub near_later : (ls : List Level) (k j m : ℕ) → k ≤ j → near s x ls k m ≡ true → near s x ls j m ≡ true
  unfolding near
  near_later ls zero j m h e = absurd (false≢true e)
  near_later ls (suc k) zero m h e = absurd (omega arith)
  near_later ls (suc k) (suc j) m h e =
      ⊎_elim (λ r. near_rule ls j m r) (λ (c, a, n). near_step ls j m c a (near_later ls k j c (omega arith) n)) (near_cases ls k m e)

  -- What is near under levels is near under those that visit less.
  pub near_less : (ls ls' : List Level) → ((n c : ℕ) → visited ls (module_item n) c ≡ true → visited ls' (module_item n) c ≡ true)
      → (k m : ℕ) → near s x ls' k m ≡ true → near s x ls k m ≡ true
  unfolding near
  near_less ls ls' less zero m e = absurd (false≢true e)
  near_less ls ls' less (suc k) m e =
      ⊎_elim (λ h. near_rule ls k m h)
      (λ (c, a, n). near_step ls k m c (record { taken = walk_fewer s x.from.0 _ _ (less m) c a.taken; entry = a.entry })
      (near_less ls ls' less k c n))
      (near_cases ls' k m e)

  -- ... and so under one level less
  pub near_fewer : (l : Level) (ls : List Level) (k m : ℕ) → near s x (l ∷ ls) k m ≡ true → near s x ls k m ≡ true
  unfolding visited any
  near_fewer l ls = near_less ls (l ∷ ls) (λ n c h. or_right (same_item l.item (module_item n) && has l.modules c) _ h)

  -- ... and under none
  pub near_none : (ls : List Level) (k m : ℕ) → near s x ls k m ≡ true → near s x [] k m ≡ true
  unfolding visited any
  near_none ls = near_less [] ls (λ n c h. absurd (false≢true h))

  -- what the search finds is near
  abbrev pub Sound : LocalSearch → Type 0
  Sound rec = (left : ℕ) (ls : List Level) (m : ℕ) → (rec left ls m).found ≡ true → near s x ls left m ≡ true

  module _ (rec : LocalSearch) (sound : Sound rec) (l : ℕ) where
    location_near : (level : Level) (ls : List Level) (best : Choice) (c : ℕ) (a : Option Scope)
        → (location s x rec (suc l) (level ∷ ls) best c a).found ≡ true → best.found || (is_some a && near s x ls l c) ≡ true
    unfolding location
    location_near level ls best c None h = or_left _ _ h
    location_near level ls best c (Some e) h =
        let j = length_left (suc l) best in
        let less : j < suc l = length_falls (suc l) best (omega arith) in
        ⊎_elim (λ f. or_right best.found _ (near_later ls j l c (omega arith) (near_fewer level ls j c (sound j (level ∷ ls) c f.0))))
        (λ f. or_left _ _ (sym (ap (λ (z : Choice). z.found) f.1) ∙ h)) (offer_cases best (rec j (level ∷ ls) c) e _ refl)

    -- a found best came from a location that is near
    each_near : (ls : List Level) (m : ℕ) (done : List ℕ) (best : Choice) (ms : List ℕ)
        → (each_location s x rec (suc l) ls (module_item m) done best ms).found ≡ true
        → best.found || any (λ c. imports s x m c && near s x ls l c) ms ≡ true
    unfolding each_location any imports
    each_near ls m done best [] h = or_left _ _ h
    each_near ls m done best (c ∷ ms) h =
        let level : Level = record { item = module_item m; modules = done ++ (c ∷ []) } in
        or_through (location s x rec (suc l) (level ∷ ls) best c (importable_name s x (module_item m) c)).found best.found
        (imports s x m c && near s x ls l c) _
        (location_near level ls best c (importable_name s x (module_item m) c)) (each_near ls m (done ++ (c ∷ [])) _ ms h)

    or_near : (ls : List Level) (m : ℕ) (f : Bool) → ruled s x m ≡ f
        → (or_local s x rec (suc l) ls m (module_rules s x false m) f).found ≡ true → near s x ls (suc l) m ≡ true
    unfolding or_local calculate_best_path_local near
    or_near ls m true e h = near_rule ls l m h
    or_near ls m false e h = or_right (ruled s x m) _ (each_near ls m [] nothing _ h)

  pub to_near : (d : ℕ) → Sound (local_to s x d)
  unfolding local_to find_path_for_module_local
  to_near zero left ls m h = absurd (false≢true h)
  to_near (suc d) zero ls m h = absurd (false≢true h)
  to_near (suc d) (suc l) ls m h = or_near (local_to s x d) (to_near d) l ls m _ refl h

  -- What is found is near.
  pub found_near : Sound (search_local s x)
  unfolding search_local
  found_near left ls m = to_near left left ls m

  pub to_far : (d left : ℕ) (ls : List Level) (m : ℕ) → near s x ls left m ≡ false → local_to s x d left ls m ≡ nothing
  to_far d left ls m e =
      to_plain d left ls m (refuted _ (λ h. true≢false (sym (to_near d left ls m h) ∙ e)))

  -- What is not near is `nothing`.
  pub far_nothing : (left : ℕ) (ls : List Level) (m : ℕ) → near s x ls left m ≡ false → search_local s x left ls m ≡ nothing
  unfolding search_local
  far_nothing left ls m = to_far left left ls m
