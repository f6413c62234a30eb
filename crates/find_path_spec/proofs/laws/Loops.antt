-- The loop over the locations: each is taken once, and what each keeps the loop keeps.
use mathlib.Core.Path.{◌≡◌, refl, sym, subst, ◌∙◌}
use Prim.Native.Nat.{ℕ, zero, suc, ◌+◌, ◌≤◌}
use mathlib.Core.List.{List, [], ◌∷◌, ◌++◌, append-nil, append_assoc}
use mathlib.Core.Bool.{Bool, true, false, ◌||◌, false≢true}
use Rattle.std.specs.Prelude.{Option, None, Some}
use lib.ListN.{length}
use Rattle.snapshot.specs.Records.{Snapshot, Scope}
use Rattle.hir_def.specs.declared.Item.{Item}
use Rattle.find_path_choice.specs.Choices.{Choice}
use Rattle.find_path_spec.specs.declared.FindPathCtx.{FindPathCtx}
use Rattle.find_path_choice.specs.Choices.{via_local, step_by, length_left, better, extended, push, try_select}
use Rattle.find_path_spec.specs.Walk.{Level, has, start_from, leads_to, walk, find_local_import_locations}
use Rattle.find_path_spec.specs.Local.{LocalSearch, offer, offer_entry, importable_name, location, each_location}
use Rattle.find_path_spec.proofs.laws.Walks.{walk_skip, walk_take, untaken, leads_fall}
use Rattle.find_path_spec.proofs.laws.Fewer.{or_both, Within, has_first, has_later}

-- each module is taken once
abbrev pub Once : List ℕ → List ℕ → Type 0
Once done [] = Unit {0}
Once done (m ∷ ms) = (has done m ≡ false) × Once (done ++ (m ∷ [])) ms

module _ (next : ℕ → List ℕ) (seen : ℕ → Bool) (size : List ℕ → ℕ)
    (falls : (d : List ℕ) (m : ℕ) → has d m ≡ false → size (d ++ (m ∷ [])) + length (next m) ≤ size d) where
  abbrev Adds : List ℕ → List ℕ → Type 0
  Adds d r = (rest : List ℕ) × (r ≡ d ++ rest) × Once d rest

  adds_step : (b : ℕ) (d : List ℕ) (m : ℕ) (ws : List ℕ) → ((d' ws' : List ℕ) → Adds d' (walk next seen b d' ws')) → (t : Bool)
      → seen m || has d m ≡ t
      → Adds d (walk next seen (suc b) d (m ∷ ws))
  adds_step b d m ws ih true e = rw (walk_skip next seen size falls b d m ws e) (ih d ws)
  adds_step b d m ws ih false e =
      let (rest, q, o) = ih (d ++ (m ∷ [])) _ in
      (m ∷ rest, walk_take next seen size falls b d m ws e ∙ q ∙ append_assoc d (m ∷ []) rest, ((or_both (seen m) (has d m) e).1, o))

  walk_adds : (b : ℕ) (d ws : List ℕ) → Adds d (walk next seen b d ws)
  unfolding walk
  walk_adds zero d ws = ([], sym (append-nil d), tt)
  walk_adds (suc b) d [] = ([], sym (append-nil d), tt)
  walk_adds (suc b) d (m ∷ ws) = adds_step b d m ws (walk_adds b) (seen m || has d m) refl

-- A local walk takes each module once.
pub locations_once : (s : Snapshot) (from : ℕ) (seen : ℕ → Bool) → Once [] (find_local_import_locations s from seen)
unfolding find_local_import_locations
locations_once s from seen =
    let (rest, q, o) = walk_adds (leads_to s from) seen (untaken s.scopes) (leads_fall s from) _ [] (start_from s from) in
    subst (Once []) (sym q) o

module _ (s : Snapshot) (x : FindPathCtx) where
  -- an offer is taken as the first, or as the better one, or left
  pub select_by : (P : Choice → Type 0) (best c : Choice) (n t : ℕ) → (best.found ≡ false → P (push s c n t))
      → (best.found ≡ true → better s x.prefer_prelude best c n ≡ true → P (extended s c n t c.has_prelude_segment))
      → (best.found ≡ true → better s x.prefer_prelude best c n ≡ false → P best) → P (try_select s x.prefer_prelude best c n t)
  unfolding try_select
  select_by P best c n t first taken left = by best.found (better s x.prefer_prelude best c n) refl refl
    where
      by : (f b : Bool) → best.found ≡ f → better s x.prefer_prelude best c n ≡ b
          → P (elim f [ true ↦ elim b [ true ↦ extended s c n t c.has_prelude_segment | false ↦ best ] | false ↦ push s c n t ])
      by true true e h = taken e h
      by true false e h = left e h
      by false b e h = first e

  pub offer_by : (P : Choice → Type 0) (best c : Choice) (e : Scope) (f : Bool) → c.found ≡ f → P best
      → (c.found ≡ true → P (try_select s x.prefer_prelude best c e.name (step_by via_local e.place))) → P (offer_entry s x best c e)
  unfolding offer_entry offer
  offer_by P best c e true h none' some' = rw (offer, h) (some' h)
  offer_by P best c e false h none' some' = rw (offer, h) none'

  pub offer_found : (best c : Choice) (e : Scope) → c.found ≡ true → offer_entry s x best c e ≡ try_select s x.prefer_prelude
      best c e.name (step_by via_local e.place)
  unfolding offer_entry offer
  offer_found best c e h = by c.found h
    where
      by : (f : Bool) → f ≡ true
          → elim f as (λ _. Choice) [ true ↦ try_select s x.prefer_prelude best c e.name (step_by via_local e.place) | false ↦ best ]
          ≡ try_select s x.prefer_prelude best c e.name (step_by via_local e.place)
      by true k = refl
      by false k = absurd (false≢true k)

  -- a location changes the best choice only if it is found
  pub location_by : (P : Choice → Type 0) (rec : LocalSearch) (left : ℕ) (ls : List Level) (best : Choice) (m : ℕ) (a : Option Scope) → P best
      → ((e : Scope) → a ≡ Some e → (rec (length_left left best) ls m).found ≡ true
      → P (try_select s x.prefer_prelude best (rec (length_left left best) ls m) e.name (step_by via_local e.place)))
      → P (location s x rec left ls best m a)
  unfolding location
  location_by P rec left ls best m None o f = o
  location_by P rec left ls best m (Some e) o f = offer_by P best (rec (length_left left best) ls m) e _ refl o (f e refl)

  -- what each location keeps, the loop keeps
  pub each_by : (P : List ℕ → Choice → Type 0) (rec : LocalSearch) (left : ℕ) (ls : List Level) (item : Item) (w done : List ℕ)
      (best : Choice) (ms : List ℕ)
      → ((done' : List ℕ) (best' : Choice) (c : ℕ) → has done' c ≡ false → has w c ≡ true → P done' best'
      → P (done' ++ (c ∷ [])) (location s x rec left (record { item = item; modules = done' ++ (c ∷ []) } ∷ ls) best' c (importable_name s x item c)))
      → Within ms w → Once done ms → P done best → P (done ++ ms) (each_location s x rec left ls item done best ms)
  unfolding each_location
  each_by P rec left ls item w done best [] step in' once p = rw (append-nil done) p
  each_by P rec left ls item w done best (m ∷ ms) step in' once p =
      rw (← (append_assoc done (m ∷ []) ms))
      (each_by P rec left ls item w (done ++ (m ∷ [])) _ ms step (λ n h. in' n (has_later m ms n h)) once.1
      (step done best m once.0 (in' m (has_first m ms)) p))

  -- ... and so for two loops side by side
  pub pair_by : (P : List ℕ → Choice → Choice → Type 0) (rec : LocalSearch) (l l' : ℕ) (ls ls' : List Level) (item : Item)
      (w done : List ℕ) (a b : Choice)
      (ms : List ℕ)
      → ((done' : List ℕ) (a' b' : Choice) (c : ℕ) → has done' c ≡ false → has w c ≡ true → P done' a' b'
      → P (done' ++ (c ∷ [])) (location s x rec l (record { item = item; modules = done' ++ (c ∷ []) } ∷ ls) a' c (importable_name s x item c))
      (location s x rec l' (record { item = item; modules = done' ++ (c ∷ []) } ∷ ls') b' c (importable_name s x item c)))
      → Within ms w → Once done ms → P done a b → P (done ++ ms) (each_location s x rec l ls item done a ms)
      (each_location s x rec l' ls' item done b ms)
  unfolding each_location
  pair_by P rec l l' ls ls' item w done a b [] step in' once p = rw (append-nil done) p
  pair_by P rec l l' ls ls' item w done a b (m ∷ ms) step in' once p =
      rw (← (append_assoc done (m ∷ []) ms))
      (pair_by P rec l l' ls ls' item w (done ++ (m ∷ [])) _ _ ms step (λ n h. in' n (has_later m ms n h)) once.1
      (step done a b m once.0 (in' m (has_first m ms)) p))
