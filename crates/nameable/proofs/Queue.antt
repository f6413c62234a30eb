-- The modules taken up one after the other are those reached turn by turn.
use Prim.Native.Nat.{ℕ, zero, suc, ◌+◌, ◌-◌, ◌≤◌, ◌<◌}
use mathlib.Core.Path.{◌≡◌, refl, sym, ap, ◌∙◌}
use mathlib.Core.List.Memᴰ
use mathlib.Core.List.{List, [], ◌∷◌, ◌++◌, append_assoc, append-nil, Memᴰ}
use mathlib.Core.Bool.{Bool, true, or-true}
use Rattle.std.specs.Prelude.{Option, None, Some}
use native.Mathlib.Omega.{arith}
use borrow.Author.Tests.{eq-eqb, lt-ltb, le-ltb}
use lib.ListN.{length, length-append, get_or}
use Rattle.snapshot.specs.Records.{Snapshot}
use Rattle.accept.specs.Valid.{Each, more}
use Rattle.accept.proofs.Accepted.{by_test}
use Rattle.hir_def.specs.Finds.{first_of, or_first}
use Rattle.hir_def.specs.Items.{types, ns_of, module_item}
use Rattle.hir_def.specs.declared.Item.{Item}
use Rattle.hir_def.specs.declared.Item.TheVariants.{Mod, Def}
use Rattle.hir_def.proofs.Every.{each_in}
use Rattle.nameable.specs.Paths.{Path, means}
use Rattle.nameable.specs.Breadth.{Way, is_met, with_meaning, added, nameless, single, onward, reached, first_to, arrives, arrival, turns}
use Rattle.nameable.specs.Queue.{no_way, paths_after, queue, begun, run, passing}
use Rattle.nameable.proofs.Lists.{passing_few, passing_less}
use Rattle.nameable.proofs.Reached.{way_to, met_snoc, with_old, with_new, added_keeps, added_meets, Plenty}
use Rattle.nameable.proofs.Arrives.{settles, still}

module _ (s : Snapshot) (from : ℕ) where
  pub added_append : (ws : List Way) (ps qs : List Path) → added s from ws (ps ++ qs) ≡ added s from (added s from ws ps) qs
  unfolding added
  added_append ws [] qs = refl
  added_append ws (p ∷ ps) qs = added_append (with_meaning ws p (means s from types p)) ps qs

  -- ways are put at the end
  pub added_end : (ws : List Way) (ps : List Path) → (vs : List Way) × (added s from ws ps ≡ ws ++ vs)
  unfolding added with_meaning
  added_end ws [] = ([], sym (append-nil ws))
  added_end ws (p ∷ ps) = by_meaning (λ us. added_end us ps) (means s from types p)
    where
      by_meaning : ((us : List Way) → (vs : List Way) × (added s from us ps ≡ us ++ vs)) → (o : Option Item)
          → (vs : List Way) × (added s from (with_meaning ws p o) ps ≡ ws ++ vs)
      by_meaning f None = f ws
      by_meaning f (Some (Def ns d)) = f ws
      by_meaning f (Some (Mod m)) =
          by_test (is_met ws m.0)
          (λ t. let g = f ws in (g.0, ap (λ (u : List Way). added s from u ps) (with_old ws p m.0 t) ∙ g.1))
          (λ t.
          let g = f (ws ++ (way_to p m.0 ∷ [])) in (
            way_to p m.0 ∷ g.0,
            ap (λ (u : List Way). added s from u ps) (with_new ws p m.0 t) ∙ (g.1 ∙ append_assoc ws (way_to p m.0 ∷ []) g.0),
          ))

  -- a path that means no module, or one that is met
  abbrev Old : List Way → Path → Type 0
  Old ws p = (m : ℕ) → means s from types p ≡ Some (module_item m) → is_met ws m ≡ true

  added_old : (ws : List Way) {ps : List Path} → Each (Old ws) ps → added s from ws ps ≡ ws
  unfolding added with_meaning
  added_old ws Each.none = refl
  added_old ws (more {x = p} {xs = ps} o h) = by_meaning (added_old ws h) (means s from types p) refl
    where
      by_meaning : added s from ws ps ≡ ws → (x : Option Item) → means s from types p ≡ x → added s from (with_meaning ws p x) ps ≡ ws
      by_meaning ih None e = ih
      by_meaning ih (Some (Def ns d)) e = ih
      by_meaning ih (Some (Mod m)) e = ap (λ (u : List Way). added s from u ps) (with_old ws p m.0 (o m.0 e)) ∙ ih

  old_in : (ws : List Way) (ps : List Path) → ((p : Path) → Memᴰ p ps → Old ws p) → Each (Old ws) ps
  old_in ws [] f = Each.none
  old_in ws (p ∷ ps) f = more (f p (Memᴰ.head refl)) (old_in ws ps (λ q m. f q (Memᴰ.tail m)))

  pub onward_append : (ns : ℕ) (ws vs : List Way) → onward s from ns (ws ++ vs) ≡ onward s from ns ws ++ onward s from ns vs
  unfolding onward
  onward_append ns [] vs = refl
  onward_append ns (w ∷ ws) vs =
      rw (onward_append ns ws vs) (sym (append_assoc (paths_after s from ns w) (onward s from ns ws) (onward s from ns vs)))

  -- after a turn, what it tried adds nothing
  tried_old : (ws : List Way) (ps : List Path) → Each (Old (added s from ws ps)) ps
  tried_old ws ps = old_in (added s from ws ps) ps (λ p i m e. added_meets s from ws m i e)

  module _ (b : Bool) where
    pub reached_end : (k : ℕ) → (vs : List Way) × (reached b s from (suc k) ≡ reached b s from k ++ vs)
    unfolding reached
    reached_end k = added_end (reached b s from k) (onward s from types (reached b s from k) ++ single b s from types)

    -- a later turn takes up the last turn's ways alone
    pub turn_new : (k : ℕ) (vs : List Way) → reached b s from (suc k) ≡ reached b s from k ++ vs
        → reached b s from (suc (suc k)) ≡ added s from (reached b s from (suc k)) (onward s from types vs)
    unfolding reached
    turn_new k vs e =
        let w0 : List Way = reached b s from k in
        let w1 : List Way = reached b s from (suc k) in
        let a : List Path = onward s from types w0 in
        let n : List Path = onward s from types vs in
        let c : List Path = single b s from types in
        let both : Each (Old w1) (a ++ c) = tried_old w0 (a ++ c) in
        let split : onward s from types w1 ≡ a ++ n = ap (onward s from types) e ∙ onward_append types w0 vs in
        let first : added s from w1 a ≡ w1 = added_old w1 (old_in w1 a (λ p i. each_in both (Memᴰ.append_left c i))) in
        let w2 : List Way = added s from w1 n in
        let last : added s from w2 c ≡ w2 =
        added_old w2 (old_in w2 c (λ p i m h. added_keeps s from w1 n m (each_in both (Memᴰ.append_right a i) m h))) in
        ap (λ (ps : List Path). added s from w1 (ps ++ c)) split
        ∙ (added_append w1 (a ++ n) c
        ∙ (ap (λ (u : List Way). added s from u c) (added_append w1 a n ∙ ap (λ (u : List Way). added s from u n) first) ∙ last))

  pub queue_on : (f : ℕ) (ws : List Way) (i : ℕ) → i < length ws
      → queue s from (suc f) ws i ≡ queue s from f (added s from ws (paths_after s from types (get_or ws i no_way))) (i + 1)
  unfolding queue
  queue_on f ws i h = rw (queue, lt-ltb i (length ws) h)

  pub queue_end : (f : ℕ) (ws : List Way) (i : ℕ) → length ws ≤ i → queue s from f ws i ≡ ws
  unfolding queue
  queue_end zero ws i h = refl
  queue_end (suc f) ws i h = rw (queue, le-ltb i (length ws) h)

  at_end : (us : List Way) (w : Way) (vs : List Way) → get_or (us ++ (w ∷ vs)) (length us) no_way ≡ w
  at_end [] w vs = refl
  at_end (u ∷ us) w vs = at_end us w vs

  -- ways taken up one after the other
  queue_many : (f : ℕ) (us vs ts : List Way) (i : ℕ) → i ≡ length us
      → queue s from (length vs + f) (us ++ (vs ++ ts)) i ≡ queue s from f (added s from (us ++ (vs ++ ts)) (onward s from types vs)) (i + length vs)
  unfolding onward added
  queue_many f us [] ts i e =
      let a : 0 + f ≡ f = omega arith in
      let z : i + 0 ≡ i = omega arith in
      ap (λ (g : ℕ). queue s from g (us ++ ts) i) a ∙ ap (λ (j : ℕ). queue s from f (us ++ ts) j) (sym z)
  queue_many f us (w ∷ vs) ts i e =
      let ws : List Way = us ++ (w ∷ (vs ++ ts)) in
      let ps : List Path = paths_after s from types w in
      let x = added_end ws ps in
      let us' : List Way = us ++ (w ∷ []) in
      let ts' : List Way = ts ++ x.0 in
      let fuel : length (w ∷ vs) + f ≡ suc (length vs + f) = omega arith in
      let more : i < length ws = omega (arith, length-append us (w ∷ (vs ++ ts)), e) in
      let here : get_or ws i no_way ≡ w = ap (λ (j : ℕ). get_or ws j no_way) e ∙ at_end us w (vs ++ ts) in
      let split : added s from ws ps ≡ us' ++ (vs ++ ts') =
      x.1 ∙ (append_assoc us (w ∷ (vs ++ ts)) x.0
      ∙ (ap (λ (u : List Way). us ++ (w ∷ u)) (append_assoc vs ts x.0) ∙ sym (append_assoc us (w ∷ []) (vs ++ ts')))) in
      let next : i + 1 ≡ length us' = omega (arith, length-append us (w ∷ []), e) in
      let place : i + 1 + length vs ≡ i + length (w ∷ vs) = omega arith in
      ap (λ (g : ℕ). queue s from g ws i) fuel
      ∙ (queue_on (length vs + f) ws i more
      ∙ (ap (λ (y : Way). queue s from (length vs + f) (added s from ws (paths_after s from types y)) (i + 1)) here
      ∙ (ap (λ (u : List Way). queue s from (length vs + f) u (i + 1)) split
      ∙ (queue_many f us' vs ts' (i + 1) next
      ∙ (ap (λ (u : List Way). queue s from f (added s from u (onward s from types vs)) (i + 1 + length vs)) (sym split)
      ∙ (ap (λ (u : List Way). queue s from f u (i + 1 + length vs)) (sym (added_append ws ps (onward s from types vs)))
      ∙ ap (λ (j : ℕ). queue s from f (added s from ws (onward s from types (w ∷ vs))) j) place))))))

module _ (s : Snapshot) (from : ℕ) (plenty : Plenty s from) where
  abbrev met_below : List Way → ℕ
  met_below ws = passing (is_met ws) (length s.modules)

  -- each way is a module of its own
  few_added : (ws : List Way) (ps : List Path) → length ws ≤ met_below ws → length (added s from ws ps) ≤ met_below (added s from ws ps)
  unfolding added with_meaning
  few_added ws [] h = h
  few_added ws (p ∷ ps) h = by_meaning (λ us k. few_added us ps k) (means s from types p) refl
    where
      by_meaning : ((us : List Way) → length us ≤ met_below us → length (added s from us ps) ≤ met_below (added s from us ps))
          → (o : Option Item) → means s from types p ≡ o → length (added s from (with_meaning ws p o) ps) ≤ met_below
          (added s from (with_meaning ws p o) ps)
      by_meaning f None e = f ws h
      by_meaning f (Some (Def ns d)) e = f ws h
      by_meaning f (Some (Mod m)) e =
          by_test (is_met ws m.0)
          (λ t. rw (with_old ws p m.0 t) (f ws h))
          (λ t.
          let vs : List Way = ws ++ (way_to p m.0 ∷ []) in
          let here : is_met vs m.0 ≡ true = met_snoc ws (way_to p m.0) m.0 ∙ rw (eq-eqb m.0 m.0 refl) (or-true (is_met ws m.0)) in
          let one =
          passing_less (is_met ws) (is_met vs) (λ n h. met_snoc ws (way_to p m.0) n ∙ rw h) m.0 (length s.modules)
          (plenty.known p m.0 e) t here in
          rw (with_new ws p m.0 t) (f vs (omega (arith, length-append ws (way_to p m.0 ∷ []), one, h))))

  few_reached : (b : Bool) (k : ℕ) → length (reached b s from k) ≤ met_below (reached b s from k)
  unfolding reached
  few_reached b zero = few_added [] (nameless b s) (omega arith)
  few_reached b (suc k) = few_added (reached b s from k) (onward s from types (reached b s from k) ++ single b s from types) (few_reached b k)

  -- never more than the snapshot's modules
  pub reached_few : (b : Bool) (k : ℕ) → length (reached b s from k) ≤ length s.modules
  reached_few b k = omega (arith, few_reached b k, passing_few (is_met (reached b s from k)) (length s.modules))

  module _ (b : Bool) where
    queue_turn : (k f : ℕ) (vs : List Way) → reached b s from (suc k) ≡ reached b s from k ++ vs
        → queue s from (length vs + f) (reached b s from (suc k)) (length (reached b s from k))
        ≡ queue s from f (reached b s from (suc (suc k))) (length (reached b s from (suc k)))
    queue_turn k f vs e =
        let whole : reached b s from (suc k) ≡ reached b s from k ++ (vs ++ []) = e ∙ ap (λ (u : List Way). reached b s from k ++ u)
        (sym (append-nil vs)) in
        let size : length (reached b s from k) + length vs ≡ length (reached b s from (suc k)) =
        sym (ap length e ∙ length-append (reached b s from k) vs) in
        ap (λ (u : List Way). queue s from (length vs + f) u (length (reached b s from k))) whole
        ∙ (queue_many s from f (reached b s from k) vs [] (length (reached b s from k)) refl
        ∙ (ap (λ (u : List Way). queue s from f (added s from u (onward s from types vs)) (length (reached b s from k) + length vs)) (sym whole)
        ∙ (ap (λ (u : List Way). queue s from f u (length (reached b s from k) + length vs)) (sym (turn_new s from b k vs e))
        ∙ ap (λ (i : ℕ). queue s from f (reached b s from (suc (suc k))) i) size)))

    -- from any turn on, to the one after which none adds anything
    queue_rest : (n j k f : ℕ) → j ≡ n + k → reached b s from (suc j) ≡ reached b s from j → length s.modules ≤ f + length (reached b s from k)
        → queue s from f (reached b s from (suc k)) (length (reached b s from k)) ≡ reached b s from j
    queue_rest zero j k f q e h =
        let same : k ≡ j = omega arith in
        let still : reached b s from (suc k) ≡ reached b s from k = ap (λ (x : ℕ). reached b s from (suc x)) same
        ∙ (e ∙ ap (reached b s from) (sym same)) in
        queue_end s from f (reached b s from (suc k)) (length (reached b s from k)) (omega (arith, ap length still))
        ∙ (still ∙ ap (reached b s from) same)
    queue_rest (suc n) j k f q e h =
        let x = reached_end s from b k in
        let size : length (reached b s from (suc k)) ≡ length (reached b s from k) + length x.0 = ap length x.1
        ∙ length-append (reached b s from k) x.0 in
        let few = reached_few b (suc k) in
        let left : ℕ = f - length x.0 in
        let fuel : f ≡ length x.0 + left = omega (arith, size, few, h) in
        ap (λ (g : ℕ). queue s from g (reached b s from (suc k)) (length (reached b s from k))) fuel
        ∙ (queue_turn k left x.0 x.1 ∙ queue_rest n j (suc k) left (omega arith) e (omega (arith, size, few, h, fuel)))

    -- The modules taken up one after the other are those that are reached.
    pub run_reached : run b s from ≡ reached b s from (turns s)
    unfolding run begun reached
    run_reached =
        let f = settles s from plenty b in
        let r0 : List Way = reached b s from 0 in
        let first = sym (added_append s from r0 (onward s from types r0) (single b s from types)) in
        ap (λ (u : List Way). queue s from (length s.modules) u (length r0)) first
        ∙ (queue_rest f.0 f.0 0 (length s.modules) (omega arith) f.2 (omega arith)
        ∙ sym (still s from plenty b f.0 f.2 (turns s) (omega (arith, f.1))))

-- The first path to an item, over the run.

pub first_of_append : {A : Type 0} (p : A → Bool) (xs ys : List A) → first_of p (xs ++ ys) ≡ or_first (first_of p xs) (first_of p ys)
unfolding first_of or_first
first_of_append p [] ys = refl
first_of_append p (x ∷ xs) ys = by_test (p x) (λ t. rw (t, first_of)) (λ t. rw (t, first_of) (first_of_append p xs ys))

pub first_append : (s : Snapshot) (from : ℕ) (item : Item) (ps qs : List Path)
    → first_to s from item (ps ++ qs) ≡ or_first (first_to s from item ps) (first_to s from item qs)
unfolding first_to
first_append s from item ps qs = first_of_append _ ps qs

or_again : {A : Type 0} (n b c : Option A) → or_first n (or_first b c) ≡ or_first n (or_first b (or_first c b))
unfolding or_first
or_again (Some x) b c = refl
or_again None (Some x) c = refl
or_again None None (Some x) = refl
or_again None None None = refl

or_turn : {A : Type 0} (n b c d e : Option A) → or_first (or_first n (or_first b (or_first c d))) (or_first (or_first d e) c)
    ≡ or_first n (or_first b (or_first c (or_first d e)))
unfolding or_first
or_turn (Some x) b c d e = refl
or_turn None (Some x) c d e = refl
or_turn None None (Some x) d e = refl
or_turn None None None (Some x) e = refl
or_turn None None None None (Some x) = refl
or_turn None None None None None = refl

module _ (s : Snapshot) (from : ℕ) (b : Bool) (item : Item) where
  abbrev to : List Path → Option Path
  to ps = first_to s from item ps

  abbrev past : List Way → Option Path
  past ws = to (onward s from (ns_of item) ws)

  -- the paths without names; those of one name, after these and by themselves; those after the modules of a list
  abbrev pub in_order : List Way → Option Path
  in_order ws = or_first (to (nameless b s)) (or_first (past (reached b s from 0)) (or_first (to (single b s from (ns_of item))) (past ws)))

  arrives_order : (k : ℕ) → arrives b s from item (suc k) ≡ in_order (reached b s from k)
  unfolding arrives
  arrives_order zero =
      ap (λ (o : Option Path). or_first (to (nameless b s)) o) (first_append s from item (onward s from (ns_of item) (reached b s from 0))
      (single b s from (ns_of item)))
      ∙ or_again (to (nameless b s)) (past (reached b s from 0)) (to (single b s from (ns_of item)))
  arrives_order (suc k) =
      let x = reached_end s from b k in
      let w1 : List Way = reached b s from (suc k) in
      let c : Option Path = to (single b s from (ns_of item)) in
      let e : Option Path = past x.0 in
      let d : Option Path = past (reached b s from k) in
      let new : past w1 ≡ or_first d e =
      ap past x.1 ∙ (ap to (onward_append s from (ns_of item) (reached b s from k) x.0)
      ∙ first_append s from item (onward s from (ns_of item) (reached b s from k)) (onward s from (ns_of item) x.0)) in
      ap (λ (o : Option Path). or_first o (to (onward s from (ns_of item) w1 ++ single b s from (ns_of item)))) (arrives_order k)
      ∙ (ap (or_first (in_order (reached b s from k))) (first_append s from item (onward s from (ns_of item) w1) (single b s from (ns_of item))
      ∙ ap (λ (o : Option Path). or_first o c) new)
      ∙ (or_turn (to (nameless b s)) (past (reached b s from 0)) c d e
      ∙ ap (λ (o : Option Path). or_first (to (nameless b s)) (or_first (past (reached b s from 0)) (or_first c o))) (sym new)))

  pub arrival_order : Plenty s from → arrival b s from item ≡ in_order (run b s from)
  arrival_order plenty =
      let f = settles s from plenty b in
      let n : ℕ = length s.modules in
      let one : n + 1 ≡ suc n = omega arith in
      let same : reached b s from n ≡ run b s from =
      still s from plenty b f.0 f.2 n (omega (arith, f.1))
      ∙ (sym (still s from plenty b f.0 f.2 (turns s) (omega (arith, f.1))) ∙ sym (run_reached s from plenty b)) in
      ap (arrives b s from item) one ∙ (arrives_order n ∙ ap in_order same)
