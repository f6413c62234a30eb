-- Shortest paths: what is reached has one, and no answer for an even module is shorter.
use mathlib.Core.Path.{◌≡◌, refl, ap, sym, subst, ◌∙◌}
use Prim.Native.Nat.{ℕ, zero, suc, ◌+◌, ◌-◌, ◌≤◌, ◌<◌}
use native.Mathlib.Omega.{arith}
use mathlib.Core.List.{List, [], ◌∷◌, ◌++◌}
use mathlib.Core.Bool.{Bool, true, false, ◌&&◌, ◌||◌, not, true≢false, false≢true}
use mathlib.Core.Logic.{⊎_elim}
use lib.Dec.{leb}
use borrow.Author.Tests.{le-leb, leb-true}
use Rattle.snapshot.specs.Lists.{any}
use Rattle.snapshot.specs.Records.{Snapshot}
use Rattle.hir_def.specs.Items.{module_item}
use Rattle.find_path_spec.specs.declared.FindPathCtx.{FindPathCtx}
use Rattle.find_path_choice.specs.Choices.{nothing, path_len, length_left, push}
use Rattle.find_path_spec.specs.Rules.{module_rules}
use Rattle.find_path_spec.specs.laws.Near.{is_some, ruled, locations, imports, near}
use Rattle.find_path_choice.specs.Choices.{Choice}
use Rattle.find_path_spec.specs.Walk.{Level, has}
use Rattle.find_path_spec.specs.Local.{LocalSearch, importable_name, location, calculate_best_path_local, or_local, find_path_for_module_local}
use Rattle.find_path_spec.specs.Search.{local_to, search_local}
use Rattle.find_path_spec.proofs.laws.Unfold.{length_falls}
use Rattle.find_path_spec.proofs.laws.Fewer.{either, both, and_both, tested, or_left, or_right, any_one, one_any}
use Rattle.find_path_spec.proofs.laws.Near.{Location, near_rule, near_step, near_cases, near_later, near_none, Sound, to_near}
use Rattle.find_path_spec.proofs.laws.Frames.{fewer_locations}
use Rattle.find_path_spec.proofs.laws.Loops.{locations_once, select_by, location_by, each_by}
use Rattle.find_path_spec.proofs.laws.Even.{Reached, Even}
use Rattle.find_path_spec.proofs.laws.Lengths.{extended_len, shift, rules_brief}

-- the least number up to k that passes the test, or k
least_of : (ℕ → Bool) → ℕ → ℕ
least_of p zero = zero
least_of p (suc k) = elim (p zero) [ true ↦ zero | false ↦ suc (least_of (λ j. p (suc j)) k) ]

least_holds : (p : ℕ → Bool) (k : ℕ) → p k ≡ true → p (least_of p k) ≡ true
unfolding least_of
least_holds p zero h = h
least_holds p (suc k) h = by (p zero) refl (least_holds (λ j. p (suc j)) k h)
  where
    by : (b : Bool) → p zero ≡ b → p (suc (least_of (λ j. p (suc j)) k)) ≡ true
        → p (elim b [ true ↦ zero | false ↦ suc (least_of (λ j. p (suc j)) k) ]) ≡ true
    by true e i = e
    by false e i = i

least_low : (p : ℕ → Bool) (k j : ℕ) → p j ≡ true → least_of p k ≤ j
unfolding least_of
least_low p zero j h = omega arith
least_low p (suc k) zero h = by (p zero) h
  where
    by : (b : Bool) → b ≡ true → elim b as (λ _. ℕ) [ true ↦ zero | false ↦ suc (least_of (λ j. p (suc j)) k) ] ≤ 0
    by true e = omega arith
    by false e = absurd (false≢true e)
least_low p (suc k) (suc j) h = by (p zero) (least_low (λ i. p (suc i)) k j h)
  where
    by : (b : Bool) → least_of (λ i. p (suc i)) k ≤ j → elim b as (λ _. ℕ) [ true ↦ zero | false ↦ suc (least_of (λ i. p (suc i)) k) ] ≤ suc j
    by true i = omega arith
    by false i = omega arith

module _ (s : Snapshot) (x : FindPathCtx) where
  -- L is the least length, past the shift, of a path for each module of E that is reached
  pub record Shortest (most : ℕ) (E : ℕ → Type 0) (L : ℕ → ℕ) : Type 0 where
    pub rule : (m : ℕ) → E m → ruled s x m ≡ true → Reached s x most m → path_len (module_rules s x false m) ≡ L m + shift s x
    pub least : (m c : ℕ) → E m → ruled s x m ≡ false → Location s x [] m c → Reached s x most c → L m ≤ suc (L c)
    pub attained : (m : ℕ) → E m → ruled s x m ≡ false → Reached s x most m
        → (c : ℕ) × Location s x [] m c × Reached s x most c × (L m ≡ suc (L c))

  abbrev by_rule : ℕ → ℕ → Bool
  by_rule j m = ruled s x m && leb (path_len (module_rules s x false m)) (j + shift s x)

  -- a rule's answer or, without one, a location gives a path of at most j steps past the shift
  within : ℕ → ℕ → Bool
  within zero m = by_rule zero m
  within (suc j) m =
      by_rule (suc j) m
      || (not (ruled s x m) && any (λ c. imports s x m c && within j c) (locations s x [] m))

  within_rule : (j m : ℕ) → ruled s x m ≡ true → path_len (module_rules s x false m) ≤ j + shift s x → within j m ≡ true
  unfolding within
  within_rule zero m f h = and_both _ _ f (le-leb _ _ h)
  within_rule (suc j) m f h = or_left _ _ (and_both _ _ f (le-leb _ _ h))

  rule_within : (j m : ℕ) → ruled s x m ≡ true → within j m ≡ true → path_len (module_rules s x false m) ≤ j + shift s x
  unfolding within
  rule_within zero m f h = leb-true _ _ (both (ruled s x m) _ h).1
  rule_within (suc j) m f h =
      ⊎_elim (λ k. leb-true _ _ (both (ruled s x m) _ k).1)
      (λ k. absurd (false≢true (sym (ap not f) ∙ (both (not (ruled s x m)) _ k).0))) (either (by_rule (suc j) m) _ h)

  within_step : (j m c : ℕ) → ruled s x m ≡ false → Location s x [] m c → within j c ≡ true → within (suc j) m ≡ true
  unfolding within
  within_step j m c f at h =
      or_right (by_rule (suc j) m) _ (and_both _ _ (ap not f) (one_any (λ n. imports s x m n && within j n) _ c at.taken
      (and_both _ _ at.entry h)))

  within_cases : (j m : ℕ) → ruled s x m ≡ false → within j m ≡ true → (i c : ℕ) × (j ≡ suc i) × Location s x [] m c × (within i c ≡ true)
  unfolding within
  within_cases zero m f h = absurd (true≢false (sym (both (ruled s x m) _ h).0 ∙ f))
  within_cases (suc j) m f h =
      ⊎_elim (λ k. absurd (true≢false (sym (both (ruled s x m) _ k).0 ∙ f)))
      (λ k.
      let (c, a, b) = any_one _ _ (both (not (ruled s x m)) _ k).1 in
      let (i, n) = both (imports s x m c) _ b in
      (j, c, refl, record { taken = a; entry = i }, n))
      (either (by_rule (suc j) m) _ h)

  near_within : (k m : ℕ) → near s x [] k m ≡ true → within k m ≡ true
  unfolding near
  near_within zero m e = absurd (false≢true e)
  near_within (suc k) m e =
      let rule : ruled s x m ≡ true → within (suc k) m ≡ true =
      λ f. let h = (rules_brief s x m f).high in within_rule (suc k) m f (omega arith) in
      ⊎_elim rule (λ (c, at, n). ⊎_elim rule (λ f. within_step k m c f at (near_within k c n)) (tested (ruled s x m))) (near_cases s x [] k m e)

  within_near : (j m : ℕ) → within j m ≡ true → near s x [] (suc j) m ≡ true
  within_near zero m h =
      ⊎_elim (λ f. near_rule s x [] 0 m f) (λ f. let (i, c, e, at, n) = within_cases zero m f h in absurd (omega arith)) (tested (ruled s x m))
  within_near (suc j) m h =
      ⊎_elim (λ f. near_rule s x [] (suc j) m f)
      (λ f.
      let (i, c, e, at, n) = within_cases (suc j) m f h in
      let q : i ≡ j = omega arith in
      near_step s x [] (suc j) m c at (within_near j c (subst (λ z. within z c ≡ true) q n)))
      (tested (ruled s x m))

  -- the length of a shortest path, if there is one for so much left
  pub shortest_in : ℕ → ℕ → ℕ
  shortest_in most m = least_of (λ j. within j m) most

  -- There are shortest paths.
  pub are_shortest : (most : ℕ) (E : ℕ → Type 0) → Shortest most E (shortest_in most)
  unfolding shortest_in
  are_shortest most E =
      let holds : (m : ℕ) → Reached s x most m → within (least_of (λ j. within j m) most) m ≡ true =
      λ m n. least_holds (λ j. within j m) most (near_within most m n) in
      let low : (m c : ℕ) → ruled s x m ≡ false → Location s x [] m c → Reached s x most c
      → least_of (λ j. within j m) most ≤ suc (least_of (λ j. within j c) most) =
      λ m c f at rc. least_low (λ j. within j m) most _ (within_step _ m c f at (holds c rc)) in
      record {
        rule = λ m _ f rm.
            let a = rule_within _ m f (holds m rm) in
            let b = (rules_brief s x m f).low in
            let c = least_low (λ j. within j m) most (path_len (module_rules s x false m) - shift s x) (within_rule _ m f (omega arith)) in
            omega arith;
        least = λ m c _ f at rc. low m c f at rc;
        attained = λ m _ f rm.
            let (i, c, e, at, n) = within_cases _ m f (holds m rm) in
            let u = least_low (λ j. within j m) most most (near_within most m rm) in
            let rc = near_later s x [] (suc i) most c (omega arith) (within_near i c n) in
            let a = least_low (λ j. within j c) most i n in
            let b = low m c f at rc in
            (c, at, rc, omega arith);
      }

  module _ (most : ℕ) (E : ℕ → Type 0) (v : ℕ → Bool) (L : ℕ → ℕ) (even : Even s x most E v) (short : Shortest most E L) where
    abbrev Floored : LocalSearch → Type 0
    Floored rec = (left : ℕ) (ls : List Level) (m : ℕ) → left ≤ most → E m → (rec left ls m).found ≡ true → L m + shift s x ≤ path_len (rec left ls m)

    module _ (rec : LocalSearch) (sound : Sound s x rec) (floored : Floored rec) (l : ℕ) (b : suc l ≤ most) (ls : List Level) (m : ℕ) (w : E m)
        (r : ruled s x m ≡ false) where
      abbrev FloorIf : List ℕ → Choice → Type 0
      FloorIf done best = best.found ≡ true → L m + shift s x ≤ path_len best

      floor_step : (done : List ℕ) (best : Choice) (c : ℕ) → has done c ≡ false → has (locations s x [] m) c ≡ true
          → FloorIf done best
          → FloorIf (done ++ (c ∷ [])) (location s x rec (suc l) (record { item = module_item m; modules = done ++ (c ∷ []) } ∷ ls)
          best c (importable_name s x (module_item m) c))
      unfolding imports push
      floor_step done best c new in' k =
          location_by s x (FloorIf done) rec (suc l) _ best c (importable_name s x (module_item m) c) k
          (λ e i f.
          let at : Location s x [] m c = record { taken = in'; entry = ap is_some i } in
          let less : length_left (suc l) best < suc l = length_falls (suc l) best (omega arith) in
          let q : Reached s x most c = near_later s x [] (length_left (suc l) best) most c (omega arith) (near_none s x _ _ c (sound _ _ c f)) in
          let o = floored _ _ c (omega arith) (even.goes m c w r at q) f in
          let u = short.least m c w r at q in
          select_by s x (FloorIf done) best _ e.name _ (λ _ _. rw extended_len (omega arith))
          (λ _ _ _. rw extended_len (omega arith)) (λ z _ _. k z))

      loop_floor : (calculate_best_path_local s x rec (suc l) ls (module_item m)).found ≡ true → L m + shift s x ≤ path_len
          (calculate_best_path_local s x rec (suc l) ls (module_item m))
      unfolding calculate_best_path_local
      loop_floor f =
          each_by s x FloorIf rec (suc l) ls (module_item m) _ [] nothing _ floor_step (fewer_locations s x ls m)
          (locations_once s x.from.0 _) (λ o. absurd (false≢true o)) f

    or_floor : (rec : LocalSearch) → Sound s x rec → Floored rec → (l : ℕ) → suc l ≤ most → (ls : List Level) (m : ℕ) → E m
        → (f : Bool) → ruled s x m ≡ f
        → (or_local s x rec (suc l) ls m (module_rules s x false m) f).found ≡ true
        → L m + shift s x ≤ path_len (or_local s x rec (suc l) ls m (module_rules s x false m) f)
    unfolding or_local
    or_floor rec sound ih l b ls m w true r f = let e = short.rule m w r (near_later s x [] (suc l) most m b (near_rule s x [] l m r)) in omega arith
    or_floor rec sound ih l b ls m w false r f = loop_floor rec sound ih l b ls m w r f

    to_floor : (d : ℕ) → Floored (local_to s x d)
    unfolding local_to find_path_for_module_local
    to_floor zero left ls m b w f = absurd (false≢true f)
    to_floor (suc d) zero ls m b w f = absurd (false≢true f)
    to_floor (suc d) (suc l) ls m b w f = or_floor (local_to s x d) (to_near s x d) (to_floor d) l b ls m w _ refl f

    -- No answer is shorter.
    pub length_floor : Floored (search_local s x)
    unfolding search_local
    length_floor left ls m b w f = to_floor left left ls m b w f
