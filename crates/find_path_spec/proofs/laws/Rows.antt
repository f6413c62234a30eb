-- The answers with no levels, round by round: a module's is made from its locations', and it is found at its distance.
use mathlib.Core.Path.{◌≡◌, refl, ap, sym, subst, ◌∙◌}
use Prim.Native.Nat.{ℕ, zero, suc, ◌≤◌, ◌<◌}
use native.Mathlib.Omega.{arith}
use mathlib.Core.List.{List, [], ◌∷◌, ◌++◌}
use mathlib.Core.Bool.{Bool, true, false, true≢false, false≢true}
use mathlib.Core.Logic.{⊎_elim}
use Rattle.std.specs.Prelude.{Option, None, Some}
use lib.Dec.{eqb}
use borrow.Author.Tests.{eqb-true}
use Rattle.snapshot.specs.Lists.{any}
use Rattle.snapshot.specs.Records.{Snapshot, Scope}
use Rattle.hir_def.specs.Items.{same_item, module_item}
use Rattle.hir_def.specs.declared.Item.{Item}
use Rattle.find_path_choice.specs.Choices.{Choice}
use Rattle.find_path_spec.specs.declared.FindPathCtx.{FindPathCtx}
use Rattle.find_path_choice.specs.Choices.{nothing, shorter_if, length_left}
use Rattle.find_path_spec.specs.Walk.{Level, has}
use Rattle.find_path_spec.specs.Local.{LocalSearch, offer_entry, importable_name, location, each_location, calculate_best_path_local, or_local}
use Rattle.find_path_spec.specs.Local.{find_path_for_module_local}
use Rattle.find_path_spec.specs.Search.{search_local, best_local}
use Rattle.find_path_spec.specs.laws.Near.{is_some, is_on, ruled, locations, imports, near}
use Rattle.find_path_spec.proofs.laws.Unfold.{length_falls, local_more}
use Rattle.find_path_spec.proofs.laws.Fewer.{either, tested, refuted, less_or, Within, has_none, has_cons, has_first, has_later}
use Rattle.find_path_spec.proofs.laws.Near.{offer_cases, Location, near_step, near_cases, near_later, far_nothing}
use Rattle.find_path_spec.proofs.laws.Frames.{far_under}
use Rattle.find_path_spec.proofs.laws.Tight.{Distance, location_distance, tight_off}

module _ (s : Snapshot) (x : FindPathCtx) where
  -- a local search for the module under way, and no other
  abbrev pub only : ℕ → List ℕ → List Level
  only m done = record { item = module_item m; modules = done } ∷ []

  on_only : (m n : ℕ) (done : List ℕ) (b : Bool) → eqb m n ≡ b → is_on (only m done) n ≡ b
  unfolding is_on any same_item
  on_only m n done true e = rw e
  on_only m n done false e = rw e

  nearer_off : (k l m n : ℕ) (done : List ℕ) → Distance s x k m → Distance s x l n → l < k → is_on (only m done) n ≡ false
  nearer_off k l m n done d e h =
      ⊎_elim (λ q. let o = d.least l (subst (λ z. near s x [] l z ≡ true) (sym (eqb-true m n q)) e.reached) in absurd (omega arith))
      (λ q. on_only m n done false q) (tested (eqb m n))

  -- A search for a location of a module that is not nearer than the length left is the one with no levels.
  pub row : (l m c j : ℕ) (done : List ℕ) → near s x [] l m ≡ false → Location s x [] m c → j ≤ l
      → search_local s x j (only m done) c ≡ search_local s x j [] c
  row l m c j done e at h =
      ⊎_elim
      (λ n.
      let d : Distance s x (suc l) m = record {
        reached = near_later s x [] (suc j) (suc l) m (omega arith) (near_step s x [] j m c at n);
        least = λ i o. ⊎_elim (λ q. q) (λ q. absurd (true≢false (sym (near_later s x [] i l m q o) ∙ e))) (less_or l i);
      } in
      let (q, f) = location_distance s x l m c j d at h n in
      subst (λ i. search_local s x i (only m done) c ≡ search_local s x i [] c) (sym q)
      (tight_off s x l c f (λ _. Unit {0}) (λ _ _ _ _ _ _. tt) (λ _ _ _ _ _ _ _ _. tt) (only m done)
      (λ _. nearer_off (suc l) l m c done d f (omega arith))
      (λ i n' o a _ _. nearer_off (suc l) i m n' done d a (omega arith))))
      (λ n. far_nothing s x j (only m done) c (far_under s x (only m done) j c n) ∙ sym (far_nothing s x j [] c n))
      (tested (near s x [] j c))

  -- the answers with no levels
  abbrev pub row_of : LocalSearch
  row_of left ls m = search_local s x left [] m

  module _ (l m : ℕ) (e : near s x [] l m ≡ false) where
    location_row : (done : List ℕ) (best : Choice) (c : ℕ) (a : Option Scope)
        → has (locations s x [] m) c ≡ true → importable_name s x (module_item m) c ≡ a
        → location s x (search_local s x) (suc l) (only m done) best c a ≡ location s x row_of (suc l) (only m done) best c a
    unfolding location imports
    location_row done best c None w i = refl
    location_row done best c (Some a) w i =
        let less : length_left (suc l) best < suc l = length_falls (suc l) best (omega arith) in
        ap (λ (z : Choice). offer_entry s x best z a) (row l m c (length_left (suc l) best) done e (record { taken = w; entry = ap is_some i })
        (omega arith))

    each_row : (done : List ℕ) (best : Choice) (ms : List ℕ) → Within ms (locations s x [] m)
        → each_location s x (search_local s x) (suc l) [] (module_item m) done best ms
        ≡ each_location s x row_of (suc l) [] (module_item m) done best ms
    unfolding each_location
    each_row done best [] w = refl
    each_row done best (c ∷ ms) w =
        ap (λ (z : Choice). each_location s x (search_local s x) (suc l) [] (module_item m) (done ++ (c ∷ [])) z ms)
        (location_row _ best c _ (w c (has_first c ms)) refl)
        ∙ each_row (done ++ (c ∷ [])) _ ms (λ n h. w n (has_later c ms n h))

    -- The answer of a round is the loop over the answers of the rounds before.
    pub rows : ruled s x m ≡ false → search_local s x (suc l) [] m ≡ calculate_best_path_local s x row_of (suc l) [] (module_item m)
    unfolding find_path_for_module_local or_local calculate_best_path_local
    rows r = local_more s x (suc l) [] m ∙ rw r (each_row [] nothing _ (λ c h. h))

  location_keeps : (rec : LocalSearch) (left : ℕ) (ls : List Level) (best : Choice) (m : ℕ) (a : Option Scope) → best.found ≡ true
      → (location s x rec left ls best m a).found ≡ true
  unfolding location
  location_keeps rec left ls best m None h = h
  location_keeps rec left ls best m (Some e) h =
      ⊎_elim (λ f. f.1) (λ f. ap (λ (z : Choice). z.found) f.1 ∙ h) (offer_cases s x best (rec (length_left left best) ls m) e _ refl)

  each_keeps : (rec : LocalSearch) (left : ℕ) (ls : List Level) (item : Item) (done : List ℕ) (best : Choice) (ms : List ℕ) → best.found ≡ true
      → (each_location s x rec left ls item done best ms).found ≡ true
  unfolding each_location
  each_keeps rec left ls item done best [] h = h
  each_keeps rec left ls item done best (m ∷ ms) h = each_keeps rec left ls item (done ++ m ∷ []) _ ms (location_keeps rec left _ best m _ h)

  -- a loop finds if one of its locations does, whatever the best is there
  each_finds : (rec : LocalSearch) (left : ℕ) (ls : List Level) (item : Item) (done : List ℕ) (best : Choice) (ms : List ℕ) (c : ℕ) → has ms c ≡ true
      → ((done' : List ℕ) (best' : Choice) → (location s x rec left (record { item = item; modules = done' } ∷ ls) best' c
      (importable_name s x item c)).found ≡ true)
      → (each_location s x rec left ls item done best ms).found ≡ true
  unfolding each_location
  each_finds rec left ls item done best [] c w hit = absurd (false≢true (sym (has_none c) ∙ w))
  each_finds rec left ls item done best (n ∷ ms) c w hit =
      ⊎_elim
      (λ q. each_keeps rec left ls item (done ++ n ∷ []) _ ms
      (subst (λ z. (location s x rec left (record { item = item; modules = done ++ (n ∷ []) } ∷ ls) best z (importable_name s x item z)).found ≡ true)
      (eqb-true c n q) (hit _ best)))
      (λ q. each_finds rec left ls item (done ++ n ∷ []) _ ms c q hit)
      (either (eqb c n) (has ms c) (sym (has_cons n ms c) ∙ w))

  module _ (l c : ℕ) (found : (search_local s x l [] c).found ≡ true) where
    -- the first choice has the whole length left
    location_finds : (ls : List Level) (best : Choice) (a : Option Scope) → is_some a ≡ true → (f : Bool) → best.found ≡ f
        → (location s x row_of (suc l) ls best c a).found ≡ true
    unfolding location length_left shorter_if
    location_finds ls best None i f h = absurd (false≢true i)
    location_finds ls best (Some e) i true h = location_keeps row_of (suc l) ls best c (Some e) h
    location_finds ls best (Some e) i false h =
        let q : length_left (suc l) best ≡ l = rw h (omega arith) in
        ⊎_elim (λ f. f.1) (λ f. absurd (true≢false (sym (ap (λ i. (search_local s x i [] c).found) q ∙ found) ∙ f.0)))
        (offer_cases s x best (search_local s x (length_left (suc l) best) [] c) e _ refl)

    loop_finds : (m : ℕ) → Location s x [] m c → (calculate_best_path_local s x row_of (suc l) [] (module_item m)).found ≡ true
    unfolding calculate_best_path_local imports
    loop_finds m at =
        each_finds row_of (suc l) [] (module_item m) [] nothing _ c at.taken
        (λ done best. location_finds _ best (importable_name s x (module_item m) c) at.entry _ refl)

  rule_found : (rec : LocalSearch) (left : ℕ) (ls : List Level) (m : ℕ) (c : Choice) (f : Bool) → c.found ≡ f → f ≡ true
      → (or_local s x rec left ls m c f).found ≡ true
  unfolding or_local
  rule_found rec left ls m c true e h = e
  rule_found rec left ls m c false e h = absurd (false≢true h)

  below_far : (l m : ℕ) → Distance s x (suc l) m → near s x [] l m ≡ false
  below_far l m d = refuted _ (λ h. let o = d.least l h in omega arith)

  -- With its distance left a module is found.
  pub near_found : (k m : ℕ) → Distance s x k m → (search_local s x k [] m).found ≡ true
  unfolding near find_path_for_module_local
  near_found zero m d = absurd (false≢true d.reached)
  near_found (suc l) m d =
      let by_rule_lem : ruled s x m ≡ true → (search_local s x (suc l) [] m).found ≡ true =
      λ r. ap (λ (z : Choice). z.found) (local_more s x (suc l) [] m) ∙ rule_found (search_local s x) (suc l) [] m _ _ refl r in
      ⊎_elim by_rule_lem
      (λ (c, at, n). ⊎_elim by_rule_lem
      (λ r. ap (λ (z : Choice). z.found) (rows l m (below_far l m d) r)
      ∙ loop_finds l c (near_found l c (location_distance s x l m c l d at (omega arith) n).1) m at)
      (tested (ruled s x m)))
      (near_cases s x [] l m d.reached)

  -- The local search for a module without a rule's answer is the module search.
  pub best_module : (l m : ℕ) → ruled s x m ≡ false → best_local s x (suc l) (module_item m) ≡ search_local s x (suc l) [] m
  unfolding best_local find_path_for_module_local or_local
  best_module l m r = sym (local_more s x (suc l) [] m ∙ rw r)
