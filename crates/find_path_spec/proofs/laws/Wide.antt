-- The answer for an even module: the shortest path is found, whatever the levels, wherever more than its length is left.
use mathlib.Core.Path.{◌≡◌, refl, ap, sym, subst, ◌∙◌}
use Prim.Native.Nat.{ℕ, zero, suc, ◌+◌, ◌-◌, ◌≤◌, ◌<◌, min, compare, Ordering}
use native.Mathlib.Omega.{arith}
use mathlib.Core.List.{List, [], ◌∷◌, ◌++◌}
use mathlib.Core.Bool.{Bool, true, false, ◌||◌, true≢false, false≢true}
use mathlib.Core.Logic.{◌⊎◌, inl, inr, ⊎_elim}
use Rattle.std.specs.Prelude.{Option, None, Some}
use lib.Dec.{eqb, ltb, compare_is_eq, is_le}
use borrow.Author.Tests.{ne_eqb, eqb-true, eqb-false, le-leb, lt-leb}
use Rattle.snapshot.specs.Lists.{any}
use Rattle.snapshot.specs.Records.{Snapshot, Scope}
use Rattle.hir_def.specs.Items.{same_item, module_item}
use Rattle.find_path_choice.specs.Choices.{Choice}
use Rattle.find_path_spec.specs.declared.FindPathCtx.{FindPathCtx}
use Rattle.find_path_choice.specs.Choices.{via_local, step_by, is_prelude, name_len, nothing, path_len, shorter_if}
use Rattle.find_path_choice.specs.Choices.{length_left, compare_bool, and_then, compare_prelude, taken, better, extended, push}
use Rattle.find_path_spec.specs.Walk.{Level, has, visited}
use Rattle.find_path_spec.specs.Rules.{module_rules}
use Rattle.find_path_spec.specs.Local.{offer_entry, importable_name, location, each_location, calculate_best_path_local, or_local}
use Rattle.find_path_spec.specs.Local.{find_path_for_module_local}
use Rattle.find_path_spec.specs.Search.{search_local}
use Rattle.find_path_spec.specs.laws.Near.{is_some, is_on, ruled, locations, imports}
use Rattle.find_path_spec.proofs.laws.Unfold.{length_falls, local_more}
use Rattle.find_path_spec.proofs.laws.Walks.{has_snoc}
use Rattle.find_path_spec.proofs.laws.Fewer.{either, tested, refuted, less_or, or_none_lem, has_none}
use Rattle.find_path_spec.proofs.laws.Near.{unfound_nothing, Location, near_later, near_none, found_near}
use Rattle.find_path_spec.proofs.laws.Tight.{walk_off, Distance}
use Rattle.find_path_spec.proofs.laws.Rows.{near_found}
use Rattle.find_path_spec.proofs.laws.Loops.{locations_once, select_by, offer_by, offer_found, pair_by}
use Rattle.find_path_spec.proofs.laws.Even.{Reached, Even, kept_step, even_flag}
use Rattle.find_path_spec.proofs.laws.Lengths.{extended_len, shift, shift_small, Sized, sized_step, length_near}
use Rattle.find_path_spec.proofs.laws.Shortest.{Shortest, length_floor}

taken_less : (o : Ordering) (r : Bool) → is_le o ≡ true → compare_is_eq o ≡ false → taken o r ≡ false
unfolding taken
taken_less Ordering.lt r h k = refl
taken_less Ordering.eq r h k = absurd (true≢false k)
taken_less Ordering.gt r h k = absurd (false≢true h)

taken_more : (o : Ordering) (r : Bool) → is_le o ≡ false → taken o r ≡ true
unfolding taken
taken_more Ordering.lt r h = absurd (true≢false h)
taken_more Ordering.eq r h = absurd (true≢false h)
taken_more Ordering.gt r h = refl

prelude_same : (p b : Bool) → compare_prelude p b b ≡ Ordering.eq
unfolding compare_prelude compare_bool
prelude_same true true = refl
prelude_same true false = refl
prelude_same false true = refl
prelude_same false false = refl

order_same : (p b c d e f : Bool) (o : Ordering) → b ≡ true → c ≡ true → d ≡ f → e ≡ f → and_then (compare_bool b c)
    (and_then (compare_prelude p d e) o) ≡ o
unfolding and_then compare_bool
order_same p b c d e f o hb hc hd he = rw (hb, hc, hd, he, prelude_same p f)

-- of two stable choices with one flag the lengths decide
module _ (s : Snapshot) (p : Bool) (a r : Choice) (n : ℕ) (f : Bool) (sa : a.stable ≡ true) (sr : r.stable ≡ true)
    (fa : a.has_prelude_segment ≡ f) (fr : r.has_prelude_segment ≡ f) where
  by_length : better s p a r n ≡ taken (compare (path_len a) (path_len r + 1)) (ltb (r.path_text_len + name_len s n) a.path_text_len)
  unfolding better
  by_length =
      ap (λ o. taken o (ltb (r.path_text_len + name_len s n) a.path_text_len))
      (order_same p r.stable a.stable a.has_prelude_segment r.has_prelude_segment f (compare (path_len a) (path_len r + 1)) sr sa fa fr)

  longer_left : path_len a < suc (path_len r) → better s p a r n ≡ false
  longer_left h = by_length ∙ taken_less _ _ (le-leb (path_len a) (path_len r + 1) (omega arith))
      (ne_eqb (path_len a) (path_len r + 1) (λ e. omega arith))

  shorter_taken : suc (path_len r) < path_len a → better s p a r n ≡ true
  shorter_taken h = by_length ∙ taken_more _ _ (lt-leb (path_len a) (path_len r + 1) (omega arith))

left_found : (left : ℕ) (c : Choice) → c.found ≡ true → length_left left c ≡ min left (path_len c) - 1
unfolding length_left shorter_if
left_found left c e = ap (λ b. shorter_if b left (path_len c)) e

left_none : (left : ℕ) (c : Choice) → c.found ≡ false → length_left left c ≡ left - 1
unfolding length_left shorter_if
left_none left c e = ap (λ b. shorter_if b left (path_len c)) e

module _ (s : Snapshot) (x : FindPathCtx) where
  module _ (most : ℕ) (E : ℕ → Type 0) (v : ℕ → Bool) (L : ℕ → ℕ) (even : Even s x most E v) (short : Shortest s x most E L) where
    -- a shortest answer for the module
    abbrev pub Exact : ℕ → Choice → Type 0
    Exact m c = (c.found ≡ true) × (path_len c ≡ L m + shift s x)

    abbrev Behind : ℕ → Choice → Type 0
    Behind m c = c.found ≡ true → L m + shift s x < path_len c

    -- One location in the loop for m, with the best choice a before it.
    module _ (l : ℕ) (hl : suc l ≤ most) (ls : List Level) (m : ℕ) (w : E m) (r : ruled s x m ≡ false) (done : List ℕ) (a : Choice)
        (c : ℕ) (e : Scope)
        (new : has done c ≡ false) (at : Location s x [] m c) (i : importable_name s x (module_item m) c ≡ Some e)
        (kept : a.found ≡ true → (n : ℕ) × (has done n ≡ true) × Location s x [] m n × Reached s x most n × (a.has_prelude_segment ≡ v m))
        (sized : a.found ≡ true → Sized s x (suc l) m a) where
      abbrev got : Choice
      got = search_local s x (length_left (suc l) a) (record { item = module_item m; modules = done ++ (c ∷ []) } ∷ ls) c

      got_left : length_left (suc l) a ≤ most
      got_left = let less : length_left (suc l) a < suc l = length_falls (suc l) a (omega arith) in omega arith

      got_reached : got.found ≡ true → Reached s x most c
      got_reached f = near_later s x [] _ most c got_left (near_none s x _ _ c (found_near s x _ _ c f))

      got_even : got.found ≡ true → E c
      got_even f = even.goes m c w r at (got_reached f)

      got_flag : got.found ≡ true → got.has_prelude_segment ≡ v c
      got_flag f = even_flag s x most E v even _ _ c got_left (got_even f) f

      -- after another choice the flag is the module's
      got_later : a.found ≡ true → got.found ≡ true → got.has_prelude_segment ≡ v m
      got_later o f =
          got_flag f
          ∙ ⊎_elim (λ z. z) (λ z. let (n, h, at', q, _) = kept o in absurd (true≢false (sym h ∙ ap (has done) (z n at' q) ∙ new)))
          (even.later m c w r at (got_reached f))

      got_stable : got.found ≡ true → got.stable ≡ true
      got_stable f = (length_near s x _ _ c f).stable

      abbrev now : Choice
      now = offer_entry s x a got e

      -- a longer one does not change a shortest
      stays : Exact m a → (got.found ≡ true → L m + shift s x < suc (path_len got)) → now ≡ a
      stays (o, len) h =
          offer_by s x (λ z. z ≡ a) a got e _ refl refl
          (λ f. select_by s x (λ z. z ≡ a) a got e.name _ (λ u. absurd (true≢false (sym o ∙ u)))
          (λ _ b. let q = h f in
          absurd (true≢false (sym b ∙ longer_left s x.prefer_prelude a got e.name (v m) (sized o).stable (got_stable f)
          (kept o).4 (got_later o f) (omega arith))))
          (λ _ _. refl))

      -- ... and is behind it
      falls_behind : Behind m a → (got.found ≡ true → L m + shift s x < suc (path_len got)) → Behind m now
      unfolding push
      falls_behind b h =
          offer_by s x (Behind m) a got e _ refl b
          (λ f. let q = h f in
          select_by s x (Behind m) a got e.name _ (λ _ _. rw extended_len (omega arith)) (λ _ _ _. rw extended_len (omega arith)) (λ _ _. b))

      unfound_same : got.found ≡ false → now ≡ a
      unfound_same f = offer_by s x (λ z. z ≡ a) a got e _ refl refl (λ g. absurd (true≢false (sym g ∙ f)))

      -- what comes after a shortest is one
      stays_exact : L m ≡ suc (L c) → Exact m a → Exact m now
      unfolding extended
      stays_exact k (o, len) =
          offer_by s x (Exact m) a got e _ refl (o, len)
          (λ f.
          let low = length_floor s x most E v L even short _ _ c got_left (got_even f) f in
          select_by s x (Exact m) a got e.name _ (λ u. absurd (true≢false (sym o ∙ u)))
          (λ _ b. (
            refl,
            ⊎_elim
                (λ q.
                absurd (true≢false (sym b ∙ longer_left s x.prefer_prelude a got e.name (v m) (sized o).stable (got_stable f)
                (kept o).4 (got_later o f) q)))
                (λ q. extended_len s got _ _ _ ∙ (let z : suc (path_len got) ≡ L m + shift s x = omega arith in z))
                (less_or (path_len a) (suc (path_len got))),
          ))
          (λ _ _. (o, len)))

      -- a shortest one is taken if none was there
      taken_first : L m ≡ suc (L c) → Behind m a → Exact c got → now ≡ extended s got e.name (step_by via_local e.place) (v m)
      unfolding push
      taken_first k b (f, len) =
          offer_found s x a got e f
          ∙ select_by s x (λ z. z ≡ extended s got e.name (step_by via_local e.place) (v m)) a got e.name _
          (λ _. ap (extended s got e.name (step_by via_local e.place)) (ap (λ z. z || is_prelude s e.name) (got_flag f)
          ∙ even.first m c e w r at (got_reached f) i))
          (λ o _. ap (extended s got e.name (step_by via_local e.place)) (got_later o f))
          (λ o u. let q = b o in
          absurd (true≢false (sym (shorter_taken s x.prefer_prelude a got e.name (v m) (sized o).stable (got_stable f)
          (kept o).4 (got_later o f) (omega arith)) ∙ u)))

    -- no even module on the levels has as short a path
    abbrev pub Clear : List Level → ℕ → Type 0
    Clear ls m = (n : ℕ) → E n → ruled s x n ≡ false → is_on ls n ≡ true → L m < L n

    clear_put : (ls : List Level) (m c : ℕ) (done : List ℕ) → L m ≡ suc (L c) → Clear ls m
        → Clear (record { item = module_item m; modules = done } ∷ ls) c
    unfolding is_on any same_item
    clear_put ls m c done k h n w r o =
        ⊎_elim (λ q. let z = ap L (eqb-true m n q) in omega arith) (λ q. let z = h n w r q in omega arith) (either (eqb m n) (is_on ls n) o)

    -- the same length left, or for both more than the shortest path
    abbrev pub Enough : ℕ → ℕ → ℕ → Type 0
    Enough left left' m = (left ≡ left') ⊎ ((L m < left) × (L m < left'))

    abbrev Claim : ℕ → Type 0
    Claim b = (left left' : ℕ) (ls ls' : List Level) (m : ℕ) → left ≤ b → left' ≤ b → E m → Reached s x most m → Clear ls m
        → Clear ls' m → Enough left left' m
        → (search_local s x left ls m ≡ search_local s x left' ls' m) × (L m < left → Exact m (search_local s x left ls m))

    -- Two loops for m side by side.
    module _ (b : ℕ) (hb : suc b ≤ most) (ih : Claim b) (l l' : ℕ) (hl : l ≤ b) (hl' : l' ≤ b) (ls ls' : List Level) (m : ℕ)
        (w : E m) (reached : Reached s x most m)
        (r : ruled s x m ≡ false) (clear : Clear ls m) (clear' : Clear ls' m)
        (enough : ((l ≡ l') × (suc l ≤ L m)) ⊎ ((L m < suc l) × (L m < suc l'))) where
      abbrev goal : ℕ
      goal = (short.attained m w r reached).0

      -- both have the same shortest choice, or neither has one, nor come to the location of a shortest
      abbrev State : List ℕ → Choice → Choice → Type 0
      State done a a' = ((a ≡ a') × Exact m a) ⊎ (Behind m a × Behind m a' × (L m < suc l → L m < suc l' → has done goal ≡ false))

      abbrev KeptIf : List ℕ → Choice → Type 0
      KeptIf done a = a.found ≡ true → (n : ℕ) × (has done n ≡ true) × Location s x [] m n × Reached s x most n × (a.has_prelude_segment ≡ v m)

      module _ (done : List ℕ) (a a' : Choice) (c : ℕ) (e : Scope) (new : has done c ≡ false) (at : Location s x [] m c)
          (i : importable_name s x (module_item m) c ≡ Some e)
          (kept : KeptIf done a) (kept' : KeptIf done a') (sized : a.found ≡ true → Sized s x (suc l) m a) (sized' : a'.found ≡ true
          → Sized s x (suc l') m a') where
        abbrev q : Choice
        q = got l (omega arith) ls m w r done a c e new at i kept sized

        abbrev q' : Choice
        q' = got l' (omega arith) ls' m w r done a' c e new at i kept' sized'

        abbrev n : Choice
        n = now l (omega arith) ls m w r done a c e new at i kept sized

        abbrev n' : Choice
        n' = now l' (omega arith) ls' m w r done a' c e new at i kept' sized'

        far_longer : L m < suc (L c) → (k : ℕ) (lv : List Level) → k ≤ most → E c → (search_local s x k lv c).found ≡ true
            → L m + shift s x < suc (path_len (search_local s x k lv c))
        far_longer h k lv y u f = let o = length_floor s x most E v L even short k lv c y u f in omega arith

        -- a location that is not on a shortest path
        far_state : L m < suc (L c) → State done a a' → State (done ++ (c ∷ [])) n n'
        far_state h st =
            let u : q.found ≡ true → L m + shift s x < suc (path_len q) = λ f. far_longer h _ _
            (got_left l (omega arith) ls m w r done a c e new at i kept sized)
            (got_even l (omega arith) ls m w r done a c e new at i kept sized f) f in
            let u' : q'.found ≡ true → L m + shift s x < suc (path_len q') = λ f. far_longer h _ _
            (got_left l' (omega arith) ls' m w r done a' c e new at i kept' sized')
            (got_even l' (omega arith) ls' m w r done a' c e new at i kept' sized' f) f in
            ⊎_elim
            (λ (eq, ex).
            let o = stays l (omega arith) ls m w r done a c e new at i kept sized ex u in
            let o' = stays l' (omega arith) ls' m w r done a' c e new at i kept' sized' (subst (Exact m) eq ex) u' in
            inl (o ∙ eq ∙ sym o', subst (Exact m) (sym o) ex))
            (λ (d, d', op). inr (
              falls_behind l (omega arith) ls m w r done a c e new at i kept sized d u,
              falls_behind l' (omega arith) ls' m w r done a' c e new at i kept' sized' d' u',
              λ g g'. has_snoc done c goal
                  ∙ or_none_lem _ _ (op g g') (ne_eqb goal c (λ z. let y = ap L z in let k = (short.attained m w r reached).3 in omega arith)),
            ))
            st

        behind_left : L m ≡ suc (L c) → (j : ℕ) (z : Choice) → Behind m z → L m < suc j → L c < length_left (suc j) z
        behind_left k j z d h =
            ⊎_elim (λ f. let o = left_found (suc j) z f in let u = d f in omega arith) (λ f. let o = left_none (suc j) z f in omega arith)
            (tested z.found)

        behind_same : (j : ℕ) (z : Choice) → Behind m z → suc j ≤ L m → length_left (suc j) z ≡ j
        behind_same j z d h =
            ⊎_elim (λ f. let o = left_found (suc j) z f in let u = d f in omega arith) (λ f. let o = left_none (suc j) z f in omega arith)
            (tested z.found)

        exact_left : (j : ℕ) (z : Choice) → Exact m z → L m < suc j → length_left (suc j) z ≡ (L m + shift s x) - 1
        exact_left j z (f, len) h = let o = left_found (suc j) z f in let u = shift_small s x in omega arith

        enough_ahead : a ≡ a' → Exact m a → Enough (length_left (suc l) a) (length_left (suc l') a') c
        enough_ahead eq ex =
            ⊎_elim (λ (same, _). inl (λ j. length_left (suc (same j)) (eq j)))
            (λ (g, g'). inl (exact_left l a ex g ∙ sym (exact_left l' a' (subst (Exact m) eq ex) g'))) enough

        enough_behind : L m ≡ suc (L c) → Behind m a → Behind m a' → Enough (length_left (suc l) a) (length_left (suc l') a') c
        enough_behind k d d' =
            ⊎_elim (λ (same, u). inl (behind_same l a d u ∙ same ∙ sym (behind_same l' a' d' (omega arith))))
            (λ (g, g'). inr (behind_left k l a d g, behind_left k l' a' d' g')) enough

        got_same : L m ≡ suc (L c) → Reached s x most c → Enough (length_left (suc l) a) (length_left (suc l') a') c → (q ≡ q')
            × (L c < length_left (suc l) a → Exact c q)
        got_same k rc fit =
            let less : length_left (suc l) a < suc l = length_falls (suc l) a (omega arith) in
            let less' : length_left (suc l') a' < suc l' = length_falls (suc l') a' (omega arith) in
            ih _ _ _ _ c (omega arith) (omega arith) (even.goes m c w r at rc) rc (clear_put ls m c _ k clear) (clear_put ls' m c _ k clear') fit

        -- a location on a shortest path
        near_state : L m ≡ suc (L c) → Reached s x most c → State done a a' → State (done ++ (c ∷ [])) n n'
        unfolding extended
        near_state k rc st =
            ⊎_elim
            (λ (eq, ex). let (sq, _) = got_same k rc (enough_ahead eq ex) in inl (
              λ j. offer_entry s x (eq j) (sq j) e,
              stays_exact l
                  (omega arith) ls m w r done a c e new at i kept sized k ex,
            ))
            (λ (d, d', op).
            let (sq, ex) = got_same k rc (enough_behind k d d') in
            ⊎_elim
            (λ f. ⊎_elim
            (λ t.
            let z : path_len q ≡ path_len q' = ap path_len sq in
            inr (
              falls_behind l (omega arith) ls m w r done a c e new at i kept sized d (λ _. omega arith),
              falls_behind l'
                  (omega arith) ls' m w r done a' c e new at i kept' sized' d' (λ _. omega arith),
              λ g g'. let y =
                  (ex (behind_left k l a d g)).1 in absurd (omega arith),
            ))
            (λ t.
            let low = length_floor s x most E v L even short _ _ c (got_left l (omega arith) ls m w r done a c e new at i kept sized)
            (even.goes m c w r at rc) f in
            let len : path_len q ≡ L c + shift s x = omega arith in
            let o = taken_first l (omega arith) ls m w r done a c e new at i kept sized k d (f, len) in
            let o' = taken_first l' (omega arith) ls' m w r done a' c e new at i kept' sized' k d' (subst (Exact c) sq (f, len)) in
            inl (
              o ∙ ap (λ z. extended s z e.name (step_by via_local e.place) (v m)) sq ∙ sym o',
              subst (Exact m) (sym o) (refl, extended_len s q _ _ _ ∙ (let z : suc (path_len q) ≡ L m + shift s x = omega arith in z)),
            ))
            (less_or (L c + shift s x) (path_len q)))
            (λ f. inr (
              subst (Behind m) (sym (unfound_same l (omega arith) ls m w r done a c e new at i kept sized f)) d,
              subst (Behind m) (sym (unfound_same l' (omega arith) ls' m w r done a' c e new at i kept' sized'
                  (ap (λ (z : Choice). z.found) (sym sq) ∙ f))) d',
              λ g g'. absurd (true≢false (sym (ex (behind_left k l a d g)).0 ∙ f)),
            ))
            (tested q.found))
            st

        -- a location that gives nothing and is not the goal
        idle_state : (goal ≡ c → ⊥) → q.found ≡ false → q'.found ≡ false → State done a a' → State (done ++ (c ∷ [])) n n'
        idle_state h f f' st =
            let o = unfound_same l (omega arith) ls m w r done a c e new at i kept sized f in
            let o' = unfound_same l' (omega arith) ls' m w r done a' c e new at i kept' sized' f' in
            ⊎_elim (λ (eq, ex). inl (o ∙ eq ∙ sym o', subst (Exact m) (sym o) ex))
            (λ (d, d', op). inr (
              subst (Behind m) (sym o) d,
              subst (Behind m) (sym o') d',
              λ g g'. has_snoc done c goal
                  ∙ or_none_lem _ _ (op g g') (ne_eqb goal c h),
            ))
            st

        some_state : State done a a' → State (done ++ (c ∷ [])) n n'
        some_state st =
            let step : Reached s x most c → State (done ++ (c ∷ [])) n n' = λ rc.
            let u = short.least m c w r at rc in
            ⊎_elim (λ h. far_state h st) (λ h. near_state (omega arith) rc st) (less_or (L m) (suc (L c))) in
            ⊎_elim (λ f. step (got_reached l (omega arith) ls m w r done a c e new at i kept sized f))
            (λ f. ⊎_elim (λ f'. step (got_reached l' (omega arith) ls' m w r done a' c e new at i kept' sized' f'))
            (λ f'. ⊎_elim (λ z. step (subst (Reached s x most) (eqb-true goal c z) (short.attained m w r reached).2))
            (λ z. idle_state (eqb-false goal c z) f f' st) (tested (eqb goal c)))
            (tested q'.found))
            (tested q.found)

      -- what both loops keep
      abbrev Both : List ℕ → Choice → Choice → Type 0
      Both done a a' =
          KeptIf done a × KeptIf done a' × (a.found ≡ true → Sized s x (suc l) m a) × (a'.found ≡ true → Sized s x (suc l') m a') × State done a a'

      abbrev put : List ℕ → ℕ → List Level → List Level
      put done c lv = record { item = module_item m; modules = done ++ (c ∷ []) } ∷ lv

      state_step : (done : List ℕ) (a a' : Choice) (c : ℕ) → has done c ≡ false → has (locations s x [] m) c ≡ true
          → Both done a a' → (o : Option Scope) → importable_name s x (module_item m) c ≡ o
          → State (done ++ (c ∷ [])) (location s x (search_local s x) (suc l) (put done c ls) a c o)
          (location s x (search_local s x) (suc l') (put done c ls') a' c o)
      unfolding location imports
      state_step done a a' c new in' (kept, kept', sized, sized', st) None i =
          ⊎_elim (λ (eq, ex). inl (eq, ex))
          (λ (d, d', op). inr (
            d,
            d',
            λ g g'. has_snoc done c goal ∙ or_none_lem _ _ (op g g')
                (ne_eqb goal c (λ z. absurd (true≢false (sym (short.attained m w r reached).1.entry
                ∙ ap (λ y. is_some (importable_name s x (module_item m) y)) z ∙ ap is_some i)))),
          ))
          st
      state_step done a a' c new in' (kept, kept', sized, sized', st) (Some e) i =
          some_state done a a' c e new (record { taken = in'; entry = ap is_some i }) i kept kept' sized sized' st

      both_step : (done : List ℕ) (a a' : Choice) (c : ℕ) → has done c ≡ false → has (locations s x [] m) c ≡ true
          → Both done a a'
          → Both (done ++ (c ∷ [])) (location s x (search_local s x) (suc l) (put done c ls) a c (importable_name s x (module_item m) c))
          (location s x (search_local s x) (suc l') (put done c ls') a' c (importable_name s x (module_item m) c))
      both_step done a a' c new in' p = (
        kept_step s x most E v even (search_local s x) (found_near s x) (even_flag s x most E v even) l (omega arith) ls m w r done a c new in' p.0,
        kept_step s x most E v even (search_local s x) (found_near s x) (even_flag s x most E v even) l' (omega arith) ls' m w r
            done a' c new in' p.1,
        sized_step s x (search_local s x) (length_near s x) l ls m done a c new in' p.2,
        sized_step s x (search_local s x) (length_near s x) l' ls' m done a' c new in' p.3,
        state_step done a a' c new in' p (importable_name s x (module_item m) c) refl,
      )

      loops : Both (locations s x [] m)
          (each_location s x (search_local s x) (suc l) ls (module_item m) [] nothing (locations s x [] m))
          (each_location s x (search_local s x) (suc l') ls' (module_item m) [] nothing (locations s x [] m))
      loops =
          pair_by s x Both (search_local s x) (suc l) (suc l') ls ls' (module_item m) _ [] nothing nothing _ both_step (λ _ h. h)
          (locations_once s x.from.0 _) (
            (λ f. absurd (false≢true f)),
            (λ f. absurd (false≢true f)),
            (λ f. absurd (false≢true f)),
            (λ f. absurd (false≢true f)),
            inr ((λ f. absurd (false≢true f)), (λ f. absurd (false≢true f)), (λ _ _. has_none goal)),
          )

      abbrev end_of : ℕ → List Level → Choice
      end_of left lv = each_location s x (search_local s x) left lv (module_item m) [] nothing (locations s x [] m)

      -- a choice behind is too long for the length left
      too_long : (j : ℕ) (z : Choice) → suc j ≤ L m → Behind m z → (z.found ≡ true → Sized s x (suc j) m z) → z.found ≡ false
      too_long j z h d u =
          refuted _ (λ f. let o = d f in let y = u f in let g = y.long in let k = y.within in omega arith)

      loop_claim : search_local s x (suc l) ls m ≡ end_of (suc l) ls → search_local s x (suc l') ls' m ≡ end_of (suc l') ls'
          → (search_local s x (suc l) ls m ≡ search_local s x (suc l') ls' m) × (L m < suc l → Exact m (search_local s x (suc l) ls m))
      loop_claim k k' =
          let (_, _, sized, sized', st) = loops in
          ⊎_elim (λ (eq, ex). (k ∙ eq ∙ sym k', λ _. subst (Exact m) (sym k) ex))
          (λ (d, d', op). ⊎_elim
          (λ (same, h). (
            unfound_nothing s x (suc l) ls m (ap (λ (z : Choice). z.found) k ∙ too_long l _ h d sized)
                ∙ sym (unfound_nothing s x (suc l') ls' m (ap (λ (z : Choice). z.found) k' ∙ too_long l' _ (omega arith) d' sized')),
            λ g. absurd (omega arith),
          ))
          (λ (g, g'). absurd (true≢false (sym (short.attained m w r reached).1.taken ∙ op g g'))) enough)
          st

    by_rule_lem : (l : ℕ) (ls : List Level) (m : ℕ) → ruled s x m ≡ true → search_local s x (suc l) ls m ≡ module_rules s x false m
    unfolding find_path_for_module_local
    by_rule_lem l ls m f = local_more s x (suc l) ls m ∙ by (ruled s x m) f
      where
        by : (b : Bool) → b ≡ true → or_local s x (search_local s x) (suc l) ls m (module_rules s x false m) b ≡ module_rules s x false m
        by true h = unfold or_local in refl
        by false h = absurd (false≢true h)

    by_loop : (l : ℕ) (ls : List Level) (m : ℕ) → E m → Clear ls m → ruled s x m ≡ false
        → search_local s x (suc l) ls m ≡ each_location s x (search_local s x) (suc l) ls (module_item m) [] nothing (locations s x [] m)
    unfolding find_path_for_module_local visited any
    by_loop l ls m w clear f =
        local_more s x (suc l) ls m ∙ by (ruled s x m) f
        ∙ ap (each_location s x (search_local s x) (suc l) ls (module_item m) [] nothing)
        (walk_off s x ls m (refuted _ (λ o. let z = clear m w f o in omega arith)))
      where
        by : (b : Bool) → b ≡ false → or_local s x (search_local s x) (suc l) ls m (module_rules s x false m) b
            ≡ each_location s x (search_local s x) (suc l) ls (module_item m) [] nothing (locations s x ls m)
        by true h = absurd (true≢false h)
        by false h = unfold or_local calculate_best_path_local in refl

    claim_step : (b l l' : ℕ) → suc b ≤ most → Claim b → l ≤ b → l' ≤ b → (ls ls' : List Level) (m : ℕ) → E m → Reached s x most m
        → Clear ls m → Clear ls' m → Enough (suc l) (suc l') m
        → (f : Bool) → ruled s x m ≡ f
        → (search_local s x (suc l) ls m ≡ search_local s x (suc l') ls' m) × (L m < suc l → Exact m (search_local s x (suc l) ls m))
    claim_step b l l' hb ih h h' ls ls' m w rc clear clear' fit true f =
        (by_rule_lem l ls m f ∙ sym (by_rule_lem l' ls' m f), λ _. subst (Exact m) (sym (by_rule_lem l ls m f)) (f, short.rule m w f rc))
    claim_step b l l' hb ih h h' ls ls' m w rc clear clear' fit false f =
        loop_claim b hb ih l l' h h' ls ls' m w rc f clear clear'
        (⊎_elim (λ same. ⊎_elim (λ g. inr (g, omega arith)) (λ g. inl (omega arith, g)) (less_or (L m) (suc l))) (λ g. inr g) fit)
        (by_loop l ls m w clear f) (by_loop l' ls' m w clear' f)

    claim : (b : ℕ) → b ≤ most → Claim b
    claim zero hb zero zero ls ls' m h h' w rc clear clear' fit = (
      local_more s x 0 ls m ∙ none_left ls
          ∙ sym (local_more s x 0 ls' m ∙ none_left ls'),
      λ g. absurd (omega arith),
    )
      where
        none_left : (lv : List Level) → find_path_for_module_local s x (search_local s x) 0 lv m ≡ nothing
        none_left lv = unfold find_path_for_module_local in refl
    claim zero hb zero (suc l') ls ls' m h h' w rc clear clear' fit = absurd (omega arith)
    claim zero hb (suc l) zero ls ls' m h h' w rc clear clear' fit = absurd (omega arith)
    claim zero hb (suc l) (suc l') ls ls' m h h' w rc clear clear' fit = absurd (omega arith)
    claim (suc b) hb zero zero ls ls' m h h' w rc clear clear' fit = claim b (omega arith) zero zero ls ls' m (omega arith)
        (omega arith) w rc clear clear' fit
    claim (suc b) hb zero (suc l') ls ls' m h h' w rc clear clear' fit = absurd (⊎_elim (λ e. omega arith) (λ (g, _). omega arith) fit)
    claim (suc b) hb (suc l) zero ls ls' m h h' w rc clear clear' fit = absurd (⊎_elim (λ e. omega arith) (λ (_, g). omega arith) fit)
    claim (suc b) hb (suc l) (suc l') ls ls' m h h' w rc clear clear' fit =
        claim_step b l l' hb (claim b (omega arith)) (omega arith) (omega arith) ls ls' m w rc clear clear' fit _ refl

    -- An even module with more left than its shortest path is found, with a path of that length.
    pub wide_exact : (left : ℕ) (ls : List Level) (m : ℕ) → left ≤ most → E m → Reached s x most m → Clear ls m → L m < left
        → Exact m (search_local s x left ls m)
    wide_exact left ls m b w rc clear h = (claim left b left left ls ls m (omega arith) (omega arith) w rc clear clear (inl refl)).1 h

    -- The answer for an even module depends neither on the levels nor on what is left past its shortest path.
    pub wide_same : (left left' : ℕ) (ls ls' : List Level) (m : ℕ) → left ≤ most → left' ≤ most → E m → Clear ls m → Clear ls' m → Enough left left' m
        → search_local s x left ls m ≡ search_local s x left' ls' m
    wide_same left left' ls ls' m b b' w clear clear' fit =
        let by_claim : Reached s x most m → search_local s x left ls m ≡ search_local s x left' ls' m =
        λ rc. (claim most (omega arith) left left' ls ls' m b b' w rc clear clear' fit).0 in
        ⊎_elim (λ f. by_claim (near_later s x [] left most m b (near_none s x ls left m (found_near s x left ls m f))))
        (λ f. ⊎_elim (λ f'. by_claim (near_later s x [] left' most m b' (near_none s x ls' left' m (found_near s x left' ls' m f'))))
        (λ f'. unfound_nothing s x left ls m f ∙ sym (unfound_nothing s x left' ls' m f')) (tested (search_local s x left' ls' m).found))
        (tested (search_local s x left ls m).found)

    -- a shortest path is no longer than the distance
    pub shortest_distance : (k m : ℕ) → k ≤ most → E m → Distance s x k m → L m ≤ k
    shortest_distance k m b w d =
        let f = near_found s x k m d in
        let z = length_near s x k [] m f in
        let o = length_floor s x most E v L even short k [] m b w f in
        let g = z.long in
        let h = z.within in
        omega arith

    -- An even module's answer is its row, with its distance or one more left.
    pub wide : (k left : ℕ) (ls : List Level) (m : ℕ) → left ≤ most → E m → Distance s x k m → Clear ls m
        → search_local s x left ls m ≡ search_local s x (min left (suc k)) [] m
    unfolding is_on any
    wide k left ls m b w d clear =
        wide_same left (min left (suc k)) ls [] m b (omega arith) w clear (λ n _ _ o. absurd (false≢true o))
        (⊎_elim (λ g. let h = shortest_distance k m (omega arith) w d in inr (omega arith, omega arith)) (λ g. inl (omega arith))
        (less_or (suc k) left))

    -- ... and as long as a shortest path
    pub row_length : (k m : ℕ) → k ≤ most → E m → Distance s x k m → path_len (search_local s x k [] m) ≡ L m + shift s x
    unfolding is_on any
    row_length k m b w d =
        let f = near_found s x k m d in
        let z = length_near s x k [] m f in
        let o = length_floor s x most E v L even short k [] m b w f in
        let g = z.long in
        let h = z.within in
        let u = shortest_distance k m b w d in
        ⊎_elim (λ t. (wide_exact k [] m b w (near_later s x [] k most m b d.reached) (λ n _ _ e. absurd (false≢true e)) t).1)
        (λ t. omega arith) (less_or (L m) k)

    -- levels of uneven modules alone are clear
    pub clear_uneven : (ls : List Level) (m : ℕ) → ((n : ℕ) → E n → ruled s x n ≡ false → is_on ls n ≡ false) → Clear ls m
    clear_uneven ls m h n w r o = absurd (true≢false (sym o ∙ h n w r))
