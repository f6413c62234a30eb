-- A local walk that passes over more modules takes fewer: none that the other does not take.
use mathlib.Core.Path.{◌≡◌, refl, ap, sym, ◌∙◌}
use Prim.Native.Nat.{ℕ, zero, suc, ◌+◌, ◌≤◌}
use native.Mathlib.Omega.{arith}
use mathlib.Core.List.{List, [], ◌∷◌, ◌++◌}
use mathlib.Core.Bool.{Bool, true, false, ◌&&◌, ◌||◌, not, and-false, or_assoc, true≢false, false≢true}
use mathlib.Core.Logic.{⊎_elim}
use lib.Dec.{eqb}
use lib.ListN.{length, length-append}
use borrow.Author.Tests.{eq-eqb, eqb-true}
pub use Rattle.std.proofs.lemmas.Bool.{or_cases as either, and_parts as both, and_from as and_both, cases_Bool as tested, cases_lt as less_or}
pub use Rattle.std.proofs.lemmas.Bool.{false_from_ne_true as refuted, or_left, or_right, or_from as or_none_lem, or_parts as or_both}
use Rattle.snapshot.specs.Lists.{any}
use Rattle.snapshot.specs.Records.{Snapshot}
use Rattle.hir_def.specs.Finds.{select}
use Rattle.find_path_spec.specs.Walk.{has, start_from, leads_to, unmet, walk, find_local_import_locations}
use Rattle.find_path_spec.proofs.laws.Walks.{select_hit, select_miss, select_short, unmet_short, has_snoc, walk_skip, walk_take, untaken, leads_fall}

-- all that the one list has, the other has
abbrev pub Within : List ℕ → List ℕ → Type 0
Within d r = (m : ℕ) → has d m ≡ true → has r m ≡ true

pub has_none : (m : ℕ) → has [] m ≡ false
unfolding has any
has_none m = refl

pub has_cons : (m : ℕ) (ms : List ℕ) (n : ℕ) → has (m ∷ ms) n ≡ (eqb n m || has ms n)
unfolding has any
has_cons m ms n = refl

pub has_first : (m : ℕ) (ms : List ℕ) → has (m ∷ ms) m ≡ true
has_first m ms = has_cons m ms m ∙ or_left _ _ (eq-eqb m m refl)

pub has_later : (m : ℕ) (ms : List ℕ) (n : ℕ) → has ms n ≡ true → has (m ∷ ms) n ≡ true
has_later m ms n h = has_cons m ms n ∙ or_right (eqb n m) _ h

has_append : (xs ys : List ℕ) (m : ℕ) → has (xs ++ ys) m ≡ (has xs m || has ys m)
unfolding has any
has_append [] ys m = refl
has_append (x ∷ xs) ys m = rw (has_append xs ys m) (sym (or_assoc (eqb m x) (has xs m) (has ys m)))

module _ (p : ℕ → Bool) where
  has_select_step : (n m : ℕ) (ms : List ℕ) → has (select p ms) m ≡ (has ms m && p m) → (t u : Bool) → p n ≡ t → eqb m n ≡ u
      → has (select p (n ∷ ms)) m ≡ (has (n ∷ ms) m && p m)
  unfolding has any
  has_select_step n m ms ih true true h k = rw (select_hit p n ms h, k) (sym (ap p (eqb-true m n k) ∙ h))
  has_select_step n m ms ih true false h k = rw (select_hit p n ms h, k) ih
  has_select_step n m ms ih false true h k =
      let o : p m ≡ false = ap p (eqb-true m n k) ∙ h in
      rw (select_miss p n ms h, k) (ih ∙ rw o (and-false (has ms m)))
  has_select_step n m ms ih false false h k = rw (select_miss p n ms h, k) ih

  has_select : (ms : List ℕ) (m : ℕ) → has (select p ms) m ≡ (has ms m && p m)
  unfolding select has any
  has_select [] m = refl
  has_select (n ∷ ms) m = has_select_step n m ms (has_select ms m) (p n) (eqb m n) refl refl

  -- any of a list is one of it
  pub any_one : (ms : List ℕ) → any p ms ≡ true → (m : ℕ) × (has ms m ≡ true) × (p m ≡ true)
  unfolding any has
  any_one [] e = absurd (false≢true e)
  any_one (n ∷ ms) e =
      ⊎_elim (λ h. (n, or_left _ _ (eq-eqb n n refl), h)) (λ h. let (m, a, b) = any_one ms h in (m, or_right (eqb m n) _ a, b))
      (either (p n) (any p ms) e)

  pub one_any : (ms : List ℕ) (m : ℕ) → has ms m ≡ true → p m ≡ true → any p ms ≡ true
  unfolding any has
  one_any [] m e h = absurd (false≢true e)
  one_any (n ∷ ms) m e h =
      ⊎_elim (λ k. or_left _ _ (ap p (sym (eqb-true m n k)) ∙ h)) (λ k. or_right (p n) _ (one_any ms m k h)) (either (eqb m n) (has ms m) e)

-- a walk that came to its end: it has what it had and its worklist, and it is closed
record Whole (next : ℕ → List ℕ) (seen : ℕ → Bool) (d ws r : List ℕ) : Type 0 where
  kept : Within d r
  met : (m : ℕ) → has ws m ≡ true → seen m || has r m ≡ true
  closed : (m n : ℕ) → has r m ≡ true → has d m ≡ false → has (next m) n ≡ true → seen n || has r n ≡ true

met_more : (seen : ℕ → Bool) (d r : List ℕ) (m : ℕ) → Within d r → seen m || has d m ≡ true → seen m || has r m ≡ true
met_more seen d r m w e = ⊎_elim (λ h. or_left _ _ h) (λ h. or_right (seen m) _ (w m h)) (either (seen m) (has d m) e)

module _ (next : ℕ → List ℕ) (seen : ℕ → Bool) (size : List ℕ → ℕ)
    (falls : (d : List ℕ) (m : ℕ) → has d m ≡ false → size (d ++ (m ∷ [])) + length (next m) ≤ size d) where
  whole_end : (d : List ℕ) → Whole next seen d [] d
  whole_end d = record {
    kept = λ m h. h;
    met = λ m h. absurd (false≢true (sym (has_none m) ∙ h));
    closed = λ m n h k l. absurd (true≢false (sym h ∙ k));
  }

  whole_skip : (d : List ℕ) (m : ℕ) (ws r : List ℕ) → seen m || has d m ≡ true → Whole next seen d ws r → Whole next seen d (m ∷ ws) r
  whole_skip d m ws r e w = record {
    kept = w.kept;
    met = λ n h.
        ⊎_elim (λ k. rw (eqb-true n m k) (met_more seen d r m w.kept e)) (λ k. w.met n k)
        (either (eqb n m) (has ws n) (sym (has_cons m ws n) ∙ h));
    closed = w.closed;
  }

  whole_take : (d : List ℕ) (m : ℕ) (ws r : List ℕ)
      → Whole next seen (d ++ (m ∷ [])) (ws ++ unmet seen (d ++ (m ∷ [])) (next m)) r → Whole next seen d (m ∷ ws) r
  unfolding unmet
  whole_take d m ws r w =
      let d' = d ++ (m ∷ []) in
      let here : has d' m ≡ true = has_snoc d m m ∙ or_right (has d m) _ (eq-eqb m m refl) in
      record {
        kept = λ n h. w.kept n (has_snoc d m n ∙ rw h);
        met = λ n h.
            ⊎_elim (λ k. rw (eqb-true n m k) (or_right (seen m) _ (w.kept m here))) (λ k. w.met n (has_append ws _ n ∙ rw k))
            (either (eqb n m) (has ws n) (sym (has_cons m ws n) ∙ h));
        closed = λ n v a b c.
            ⊎_elim
            (λ k. ⊎_elim (λ h. met_more seen d' r v w.kept h)
            (λ h.
            let o : has (unmet seen d' (next m)) v ≡ true =
            has_select (λ z. not (seen z || has d' z)) (next m) v ∙ and_both _ _ (ap (λ z. has (next z) v) (sym (eqb-true n m k)) ∙ c) (ap not h) in
            w.met v (has_append ws _ v ∙ or_right (has ws v) _ o))
            (tested (seen v || has d' v)))
            (λ k. w.closed n v a (has_snoc d m n ∙ or_none_lem _ _ b k) c) (tested (eqb n m));
      }

  abbrev WholeIn : ℕ → Type 0
  WholeIn b = (d ws : List ℕ) → length ws + size d ≤ b → Whole next seen d ws (walk next seen b d ws)

  whole_step : (b : ℕ) (d : List ℕ) (m : ℕ) (ws : List ℕ) → WholeIn b → length (m ∷ ws) + size d ≤ suc b → (t : Bool) → seen m || has d m ≡ t
      → Whole next seen d (m ∷ ws) (walk next seen (suc b) d (m ∷ ws))
  whole_step b d m ws ih h true e = rw (walk_skip next seen size falls b d m ws e) (whole_skip d m ws _ e (ih d ws (omega arith)))
  whole_step b d m ws ih h false e =
      let d' = d ++ (m ∷ []) in
      let u = unmet seen d' (next m) in
      let l : length (ws ++ u) ≡ length ws + length u = length-append ws u in
      let o : length u ≤ length (next m) = unmet_short seen d' (next m) in
      let q : size d' + length (next m) ≤ size d = falls d m (or_both (seen m) (has d m) e).1 in
      rw (walk_take next seen size falls b d m ws e) (whole_take d m ws _ (ih d' (ws ++ u) (omega arith)))

  walk_whole : (b : ℕ) → WholeIn b
  unfolding walk
  walk_whole zero d [] h = whole_end d
  walk_whole zero d (m ∷ ws) h = absurd (omega arith)
  walk_whole (suc b) d [] h = whole_end d
  walk_whole (suc b) d (m ∷ ws) h = whole_step b d m ws (walk_whole b) h (seen m || has d m) refl

-- A walk past more takes no module outside a closed list.
module _ (next : ℕ → List ℕ) (seen seen' : ℕ → Bool) (more : (m : ℕ) → seen m ≡ true → seen' m ≡ true) (size : List ℕ → ℕ)
    (falls : (d : List ℕ) (m : ℕ) → has d m ≡ false → size (d ++ (m ∷ [])) + length (next m) ≤ size d)
    (r : List ℕ) (closed : (m n : ℕ) → has r m ≡ true → has (next m) n ≡ true → seen n || has r n ≡ true) where
  abbrev Stays : ℕ → Type 0
  Stays b = (d ws : List ℕ) → Within d r → ((m : ℕ) → has ws m ≡ true → seen m || has r m ≡ true) → Within (walk next seen' b d ws) r

  -- a module that is not passed over is in the list
  in_list : (d : List ℕ) (m : ℕ) → seen' m || has d m ≡ false → seen m || has r m ≡ true → has r m ≡ true
  in_list d m e h =
      ⊎_elim (λ k. absurd (true≢false (sym (more m k) ∙ (or_both (seen' m) (has d m) e).0))) (λ k. k) (either (seen m) (has r m) h)

  stays_step : (b : ℕ) (d : List ℕ) (m : ℕ) (ws : List ℕ) → Stays b → Within d r → ((n : ℕ) → has (m ∷ ws) n ≡ true → seen n || has r n ≡ true)
      → (t : Bool) → seen' m || has d m ≡ t → Within (walk next seen' (suc b) d (m ∷ ws)) r
  unfolding unmet
  stays_step b d m ws ih w met true e =
      rw (walk_skip next seen' size falls b d m ws e) (ih d ws w (λ n h. met n (has_later m ws n h)))
  stays_step b d m ws ih w met false e =
      let d' = d ++ (m ∷ []) in
      let here : has r m ≡ true = in_list d m e (met m (has_first m ws)) in
      rw (walk_take next seen' size falls b d m ws e)
      (ih d' _
      (λ n h. ⊎_elim (λ k. w n k) (λ k. rw (eqb-true n m k) here) (either (has d n) (eqb n m) (sym (has_snoc d m n) ∙ h)))
      (λ n h. ⊎_elim (λ k. met n (has_later m ws n k))
      (λ k. closed m n here (both (has (next m) n) _ (sym (has_select (λ z. not (seen' z || has d' z)) (next m) n) ∙ k)).0)
      (either (has ws n) _ (sym (has_append ws _ n) ∙ h))))

  walk_stays : (b : ℕ) → Stays b
  unfolding walk
  walk_stays zero d ws w met = w
  walk_stays (suc b) d [] w met = w
  walk_stays (suc b) d (m ∷ ws) w met = stays_step b d m ws (walk_stays b) w met (seen' m || has d m) refl

module _ (s : Snapshot) (from : ℕ) (seen seen' : ℕ → Bool) where
  -- Walks past the same modules are the same.
  pub walk_same : ((m : ℕ) → seen m ≡ seen' m) → find_local_import_locations s from seen ≡ find_local_import_locations s from seen'
  walk_same h = ap (find_local_import_locations s from) (λ i m. h m i)

  -- A walk past more takes no others.
  pub walk_fewer : ((m : ℕ) → seen m ≡ true → seen' m ≡ true)
      → Within (find_local_import_locations s from seen') (find_local_import_locations s from seen)
  unfolding find_local_import_locations
  walk_fewer more =
      let a : untaken s.scopes [] ≤ length s.scopes = select_short _ s.scopes in
      let w = walk_whole (leads_to s from) seen (untaken s.scopes) (leads_fall s from) (length (start_from s from) + length s.scopes) []
      (start_from s from) (omega arith) in
      walk_stays (leads_to s from) seen seen' more (untaken s.scopes) (leads_fall s from) _ (λ m n h k. w.closed m n h (has_none m) k)
      _ [] (start_from s from)
      (λ m h. absurd (false≢true (sym (has_none m) ∙ h))) w.met
