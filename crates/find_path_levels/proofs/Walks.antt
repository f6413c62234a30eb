-- The walk over a worklist that holds modules twice, and the walk along a run that never does: both take the same modules.
use Prim.Native.Nat.{ℕ, zero, suc, ◌+◌, ◌≤◌, ◌<◌}
use mathlib.Core.Path.{◌≡◌, refl, sym, ◌∙◌, ap}
use mathlib.Core.List.{List, [], ◌∷◌, ◌++◌, append-nil, append_assoc}
use mathlib.Core.Bool.{Bool, true, false, ◌||◌, not, true≢false}
use native.Mathlib.Omega.{arith}
use lib.Dec.{eqb}
use lib.ListN.{length, get_or, length-append}
use lib.Seq.{get_or_at, append_snoc}
use borrow.Author.Tests.{lt-ltb, le-ltb}
use Rattle.snapshot.specs.Lists.{any}
use Rattle.snapshot.specs.Records.{Snapshot, Scope}
use Rattle.hir_def.specs.Finds.{select}
use Rattle.find_path_spec.specs.Walk.{has, unmet, walk, start_from, leads_to, find_local_import_locations}
use Rattle.find_path_spec.proofs.laws.Walks.{walk_skip, walk_take, select_hit, select_miss, select_short, untaken, leads_fall}
use Rattle.find_path_levels.specs.Push.{push, lean}

pub or_both : (a b : Bool) → a || b ≡ false → (a ≡ false) × (b ≡ false)
or_both true b e = absurd (true≢false e)
or_both false b e = (refl, e)

or_assoc : (a b c : Bool) → (a || b) || c ≡ a || (b || c)
or_assoc true b c = refl
or_assoc false b c = refl

has_append : (xs ys : List ℕ) (m : ℕ) → has (xs ++ ys) m ≡ (has xs m || has ys m)
unfolding has any
has_append [] ys m = refl
has_append (x ∷ xs) ys m = rw (has_append xs ys m) (sym (or_assoc (eqb m x) (has xs m) (has ys m)))

-- all that the one list has, the other has
abbrev Within : List ℕ → List ℕ → Type 0
Within d r = (m : ℕ) → has d m ≡ true → has r m ≡ true

within_append : (d e : List ℕ) → Within d (d ++ e)
within_append d e m h = has_append d e m ∙ rw h

module _ (seen : ℕ → Bool) where
  pub push_skip : (run : List ℕ) (m : ℕ) (ms : List ℕ) → seen m || has run m ≡ true → push seen run (m ∷ ms) ≡ push seen run ms
  unfolding push
  push_skip run m ms e = rw (push, e)

  pub push_take : (run : List ℕ) (m : ℕ) (ms : List ℕ) → seen m || has run m ≡ false → push seen run (m ∷ ms) ≡ push seen (run ++ (m ∷ [])) ms
  unfolding push
  push_take run m ms e = rw (push, e)

  pub push_none : (run : List ℕ) → push seen run [] ≡ run
  unfolding push
  push_none run = refl

  abbrev PushAppend : List ℕ → List ℕ → Type 0
  PushAppend xs ys = (run : List ℕ) → push seen run (xs ++ ys) ≡ push seen (push seen run xs) ys

  push_append_step : (run : List ℕ) (m : ℕ) (ms ys : List ℕ) → PushAppend ms ys → (t : Bool) → seen m || has run m ≡ t
      → push seen run (m ∷ (ms ++ ys)) ≡ push seen (push seen run (m ∷ ms)) ys
  push_append_step run m ms ys ih true e =
      push_skip run m (ms ++ ys) e ∙ ih run ∙ ap (λ r. push seen r ys) (sym (push_skip run m ms e))
  push_append_step run m ms ys ih false e =
      push_take run m (ms ++ ys) e ∙ ih (run ++ (m ∷ [])) ∙ ap (λ r. push seen r ys) (sym (push_take run m ms e))

  pub push_append : (xs ys : List ℕ) → PushAppend xs ys
  push_append [] ys run = ap (λ r. push seen r ys) (sym (push_none run))
  push_append (m ∷ ms) ys run = push_append_step run m ms ys (push_append ms ys) (seen m || has run m) refl

  -- the run only grows, at its end
  abbrev Grown : List ℕ → List ℕ → Type 0
  Grown run run' = (rest : List ℕ) × (run' ≡ run ++ rest)

  push_grown_step : (run : List ℕ) (m : ℕ) (ms : List ℕ) → ((r : List ℕ) → Grown r (push seen r ms)) → (t : Bool) → seen m || has run m ≡ t
      → Grown run (push seen run (m ∷ ms))
  push_grown_step run m ms ih true e = ((ih run).0, push_skip run m ms e ∙ (ih run).1)
  push_grown_step run m ms ih false e =
      let g = ih (run ++ (m ∷ [])) in
      ((m ∷ []) ++ g.0, push_take run m ms e ∙ g.1 ∙ append_assoc run (m ∷ []) g.0)

  pub push_grown : (ms run : List ℕ) → Grown run (push seen run ms)
  push_grown [] run = ([], push_none run ∙ sym (append-nil run))
  push_grown (m ∷ ms) run = push_grown_step run m ms (push_grown ms) (seen m || has run m) refl

  push_within : (ms run : List ℕ) → Within run (push seen run ms)
  push_within ms run m h = let g = push_grown ms run in rw g.1 (within_append run g.0 m h)

  -- the module that was pushed first stands where the run ended
  push_first : (d : List ℕ) (m : ℕ) (ws : List ℕ)
      → (length d < length (push seen (d ++ (m ∷ [])) ws)) × (get_or (push seen (d ++ (m ∷ [])) ws) (length d) 0 ≡ m)
  push_first d m ws =
      let g = push_grown ws (d ++ (m ∷ [])) in
      let e : push seen (d ++ (m ∷ [])) ws ≡ d ++ (m ∷ g.0) = g.1 ∙ append_snoc d m g.0 in
      (omega (arith, ap length e ∙ length-append d (m ∷ g.0)), rw e (get_or_at d m g.0 0 (length d) refl))

  -- a module that the smaller list has met, the larger has
  met_more : (d r : List ℕ) (m : ℕ) → Within d r → (s : Bool) → s || has d m ≡ true → s || has r m ≡ true
  met_more d r m w true e = refl
  met_more d r m w false e = w m e

  unmet_skip : (d : List ℕ) (m : ℕ) (ms : List ℕ) → seen m || has d m ≡ true → unmet seen d (m ∷ ms) ≡ unmet seen d ms
  unfolding unmet
  unmet_skip d m ms e = select_miss (λ n. not (seen n || has d n)) m ms (ap not e)

  unmet_take : (d : List ℕ) (m : ℕ) (ms : List ℕ) → seen m || has d m ≡ false → unmet seen d (m ∷ ms) ≡ m ∷ unmet seen d ms
  unfolding unmet
  unmet_take d m ms e = select_hit (λ n. not (seen n || has d n)) m ms (ap not e)

  unmet_none : (d : List ℕ) → unmet seen d [] ≡ []
  unfolding unmet select
  unmet_none d = refl

  -- the visited ones may be left out or not: the run has them
  abbrev PushUnmet : List ℕ → List ℕ → Type 0
  PushUnmet d ms = (r : List ℕ) → Within d r → push seen r (unmet seen d ms) ≡ push seen r ms

  push_unmet_keep : (d r : List ℕ) (m : ℕ) (ms : List ℕ) → Within d r → PushUnmet d ms → (t : Bool) → seen m || has r m ≡ t
      → push seen r (m ∷ unmet seen d ms) ≡ push seen r (m ∷ ms)
  push_unmet_keep d r m ms w ih true e = push_skip r m _ e ∙ ih r w ∙ sym (push_skip r m ms e)
  push_unmet_keep d r m ms w ih false e =
      push_take r m _ e ∙ ih (r ++ (m ∷ [])) (λ x h. within_append r (m ∷ []) x (w x h)) ∙ sym (push_take r m ms e)

  push_unmet_step : (d r : List ℕ) (m : ℕ) (ms : List ℕ) → Within d r → PushUnmet d ms → (t : Bool) → seen m || has d m ≡ t
      → push seen r (unmet seen d (m ∷ ms)) ≡ push seen r (m ∷ ms)
  push_unmet_step d r m ms w ih true e =
      ap (push seen r) (unmet_skip d m ms e) ∙ ih r w ∙ sym (push_skip r m ms (met_more d r m w (seen m) e))
  push_unmet_step d r m ms w ih false e =
      ap (push seen r) (unmet_take d m ms e) ∙ push_unmet_keep d r m ms w ih (seen m || has r m) refl

  push_unmet : (d ms : List ℕ) → PushUnmet d ms
  push_unmet d [] r w = ap (push seen r) (unmet_none d)
  push_unmet d (m ∷ ms) r w = push_unmet_step d r m ms w (push_unmet d ms) (seen m || has d m) refl

  unmet_short : (d ms : List ℕ) → length (unmet seen d ms) ≤ length ms
  unfolding unmet
  unmet_short d ms = select_short _ ms

module _ (next : ℕ → List ℕ) (seen : ℕ → Bool) where
  pub lean_go : (b : ℕ) (run : List ℕ) (k : ℕ) → k < length run
      → lean next seen (suc b) run k ≡ lean next seen b (push seen run (next (get_or run k 0))) (k + 1)
  unfolding lean
  lean_go b run k h = rw (lean, lt-ltb _ _ h)

  pub lean_end : (b : ℕ) (run : List ℕ) (k : ℕ) → length run ≤ k → lean next seen b run k ≡ run
  unfolding lean
  lean_end zero run k h = refl
  lean_end (suc b) run k h = rw (lean, le-ltb _ _ h)

-- `size` is what the modules not taken yet can still add: it falls by what a module leads to, when that is taken.
module _ (next : ℕ → List ℕ) (seen : ℕ → Bool) (size : List ℕ → ℕ)
    (falls : (d : List ℕ) (m : ℕ) → has d m ≡ false → size (d ++ (m ∷ [])) + length (next m) ≤ size d) where
  -- The run is `done` with all of the worklist pushed, and the cursor stands at the end of `done`.
  abbrev Same : ℕ → Type 0
  Same b = (b' : ℕ) (d ws : List ℕ) → length ws + size d ≤ b → b ≤ b' → walk next seen b d ws ≡ lean next seen b' (push seen d ws) (length d)

  same_end : (b b' : ℕ) (d : List ℕ) → walk next seen b d [] ≡ lean next seen b' (push seen d []) (length d)
  unfolding walk
  same_end zero b' d = rw (push_none seen d) (sym (lean_end next seen b' d (length d) (omega arith)))
  same_end (suc b) b' d = rw (push_none seen d) (sym (lean_end next seen b' d (length d) (omega arith)))

  same_take : (b b'' : ℕ) (d : List ℕ) (m : ℕ) (ws : List ℕ) → Same b → length (m ∷ ws) + size d ≤ suc b → b ≤ b'' → seen m || has d m ≡ false
      → walk next seen (suc b) d (m ∷ ws) ≡ lean next seen (suc b'') (push seen d (m ∷ ws)) (length d)
  same_take b b'' d m ws ih h k e =
      let d' = d ++ (m ∷ []) in
      let u = unmet seen d' (next m) in
      let r = push seen d' ws in
      let f = push_first seen d m ws in
      let l : length d' ≡ length d + 1 = length-append d (m ∷ []) in
      let s : length (ws ++ u) ≡ length ws + length u = length-append ws u in
      let o : length u ≤ length (next m) = unmet_short seen d' (next m) in
      let q : size d' + length (next m) ≤ size d = falls d m (or_both (seen m) (has d m) e).1 in
      let p : push seen d' (ws ++ u) ≡ push seen r (next m) = push_append seen ws u d' ∙ push_unmet seen d' (next m) r (push_within seen ws d') in
      walk_take next seen size falls b d m ws e
      ∙ ih b'' d' (ws ++ u) (omega arith) k
      ∙ ap (λ x. lean next seen b'' x (length d')) p
      ∙ ap (lean next seen b'' (push seen r (next m))) l
      ∙ ap (λ x. lean next seen b'' (push seen r (next x)) (length d + 1)) (sym f.1)
      ∙ sym (lean_go next seen b'' r (length d) f.0)
      ∙ ap (λ x. lean next seen (suc b'') x (length d)) (sym (push_take seen d m ws e))

  same_step : (b b' : ℕ) (d : List ℕ) (m : ℕ) (ws : List ℕ) → Same b → length (m ∷ ws) + size d ≤ suc b → suc b ≤ b' → (t : Bool)
      → seen m || has d m ≡ t
      → walk next seen (suc b) d (m ∷ ws) ≡ lean next seen b' (push seen d (m ∷ ws)) (length d)
  same_step b b' d m ws ih h k true e =
      walk_skip next seen size falls b d m ws e ∙ ih b' d ws (omega arith) (omega arith) ∙ ap (λ x. lean next seen b' x (length d))
      (sym (push_skip seen d m ws e))
  same_step b zero d m ws ih h k false e = absurd (omega arith)
  same_step b (suc b'') d m ws ih h k false e = same_take b b'' d m ws ih h (omega arith) e

  pub walk_lean : (b : ℕ) → Same b
  walk_lean zero b' d [] h k = same_end zero b' d
  walk_lean zero b' d (m ∷ ws) h k = absurd (omega arith)
  walk_lean (suc b) b' d [] h k = same_end (suc b) b' d
  walk_lean (suc b) b' d (m ∷ ws) h k = same_step b b' d m ws (walk_lean b) h k (seen m || has d m) refl

untaken_all : (es : List Scope) → untaken es [] ≡ length es
unfolding select has any
untaken_all [] = refl
untaken_all (e ∷ es) = ap suc (untaken_all es)

-- The modules that the definition takes are those of the run, from any bound that is enough.
pub locations_lean : (s : Snapshot) (from : ℕ) (seen : ℕ → Bool) (b : ℕ) → length (start_from s from) + length s.scopes ≤ b
    → find_local_import_locations s from seen ≡ lean (leads_to s from) seen b (push seen [] (start_from s from)) 0
unfolding find_local_import_locations
locations_lean s from seen b h =
    walk_lean (leads_to s from) seen (untaken s.scopes) (leads_fall s from) (length (start_from s from) + length s.scopes) b [] (start_from s from)
    (omega (arith, untaken_all s.scopes)) h
