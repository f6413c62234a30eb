-- Accepted words without one scope record are accepted, without its entry; the records after it stand lower.
use Prim.Native.Nat.{ℕ, ◌+◌, ◌-◌, ◌≤◌, ◌<◌}
use mathlib.Core.Path.{◌≡◌, refl, sym, ◌∙◌, ap, subst}
use mathlib.Core.List.{List, [], ◌∷◌, ◌++◌, map, map-append, append_assoc, append-nil}
use mathlib.Core.Bool.{Bool, true, false, ◌&&◌, ◌||◌}
use native.Mathlib.Omega.{arith}
use lib.Dec.{eqb}
use lib.ListN.{length, get_or}
use borrow.Author.Tests.{eqb-true}
use Rattle.snapshot.specs.Lists.{any}
use Rattle.snapshot.specs.Words.{kind_of, arguments_of, arguments_at}
use Rattle.snapshot.specs.Sizes.{scope_size}
use Rattle.snapshot.specs.Records.{Snapshot, Scope, scope_at}
use Rattle.check_rules.specs.Tests.{same_entry}
use Rattle.check_rules.specs.Steps.{add_scope}
use Rattle.check_rules.specs.Verdict.{accept, records, empty, verdict}
use Rattle.accept.proofs.Accepted.{by_test}
use Rattle.accept.proofs.Bools.{and_two}
use Rattle.edit_rules.specs.Entries.{lower, moved_scope, with_scopes, without, is_entry, entry_place, cut}
use Rattle.edit_rules.proofs.scope_edits.Lists.{any_append, any_snoc, any_map, any_less, any_middle, without_middle, cut_length, cut_before}
use Rattle.edit_rules.proofs.scope_edits.Lists.{cut_after}
use Rattle.edit_rules.proofs.scope_edits.Moved.{Bare, bare_moved, Stays, other_moved, arguments_are}
use Rattle.edit_rules.proofs.scope_edits.Stepped.{Taking, taking, taking_within, follows_rise, follows_low, follows_parts, scope_kind_lem}
use Rattle.edit_rules.proofs.scope_edits.Stepped.{scope_taken}
use Rattle.edit_rules.proofs.scope_edits.Folded.{Next_record, records_more, records_done, first_record, run_moved}
use Rattle.edit_rules.proofs.scope_edits.Split.{Split, split, verdict_records, verdict_is}

-- what a step adds to the scopes

module _ (W : List ℕ) (a last : ℕ) (s t : Snapshot) (k : Taking W a last s t) where
  pub scope_added : kind_of (get_or W a 0) ≡ 9 → add_scope s (scope_at W a) ≡ t
  scope_added e = (scope_taken s t (scope_at W a) (sym (scope_kind_lem W a _ s e) ∙ k.step)).same

  none_added : eqb (kind_of (get_or W a 0)) 9 ≡ false → Stays (kind_of (get_or W a 0)) s t
  none_added c =
      let f = follows_parts last (kind_of (get_or W a 0)) k.order in
      (other_moved W W (λ n. n) a a (kind_of (get_or W a 0)) refl (λ z. refl) refl (λ i h. refl) s t s.scopes c f.1 f.2 f.0 k.step).0

  -- imports and externs stand after the scopes
  pub bare_kept : kind_of (get_or W a 0) ≤ 9 → Bare s → Bare t
  bare_kept h b =
      by_test (eqb (kind_of (get_or W a 0)) 9)
      (λ c. subst Bare (scope_added (eqb-true (kind_of (get_or W a 0)) 9 c)) b)
      (λ c. (none_added c).1 h b)

-- no entry so far passes the test
abbrev Absent : (Scope → Bool) → ℕ → Snapshot → Type 0
Absent t last s = (any t s.scopes ≡ false) × (last ≤ 9 → Bare s)

none_kept : (t : Scope → Bool) (W : List ℕ) (a last : ℕ) (s r : Snapshot) → is_entry t W a ≡ false → Taking W a last s r
    → any t s.scopes ≡ false → any t r.scopes ≡ false
none_kept t W a last s r d k h =
    by_test (eqb (kind_of (get_or W a 0)) 9)
    (λ c.
    let e = scope_added W a last s r k (eqb-true (kind_of (get_or W a 0)) 9 c) in
    let f : true && t (scope_at W a) ≡ false = rw c at d in
    subst (λ (x : Snapshot). any t x.scopes ≡ false) e (any_snoc t s.scopes (scope_at W a) ∙ rw (h, f)))
    (λ c. subst (λ xs. any t xs ≡ false) (sym (none_added W a last s r k c).0) h)

absent_kept : (t : Scope → Bool) (W : List ℕ) (a last : ℕ) (s r : Snapshot) → is_entry t W a ≡ false → Taking W a last s r → Absent t last s
    → Absent t (kind_of (get_or W a 0)) r
absent_kept t W a last s r d k h =
    (none_kept t W a last s r d k h.0, λ l. bare_kept W a last s r k l (h.1 (follows_low last (kind_of (get_or W a 0)) k.order l)))

module _ (t : Scope → Bool) (W : List ℕ) (u : Snapshot) (acc : verdict W ≡ accept u) where
  pub entry_split : Split W u (is_entry t W) (Absent t) 0 0 empty (entry_place t W)
  unfolding entry_place any
  entry_split =
      let e = verdict_records W u acc in
      split W u (is_entry t W) (Absent t) (absent_kept t W) (length W) 0 0 empty e.1 (omega arith) (omega arith) (refl, λ l. (refl, refl))

  -- where no record is found, no entry passes the test
  pub absent : length W ≤ entry_place t W → any t u.scopes ≡ false
  absent h =
      let p = entry_split in
      subst (λ (x : Snapshot). any t x.scopes ≡ false) (records_done W p.fuel (entry_place t W) p.before p.state u h p.rest)
      p.holds.0

-- a list with the entry y after those of pre, and the list without it
abbrev Less : List Scope → Scope → List Scope → List Scope → Type 0
Less pre y xs ys = (mid : List Scope) × (xs ≡ pre ++ (y ∷ mid)) × (ys ≡ pre ++ map (moved_scope lower) mid)

less_kept : (pre : List Scope) (y : Scope) → 9 ≤ 9 → (xs ys : List Scope) (z : Scope) → Less pre y xs ys → any (same_entry z) xs ≡ false
    → (any (same_entry z) ys ≡ false) × Less pre y (xs ++ (z ∷ [])) (ys ++ (moved_scope lower z ∷ []))
less_kept pre y h xs ys z r e =
    let mid = r.0 in
    let low = map (moved_scope lower) mid in
    let f = any_less (same_entry z) pre y mid (subst (λ l. any (same_entry z) l ≡ false) r.1 e) in
    let g : any (same_entry z) (pre ++ low) ≡ any (same_entry z) (pre ++ mid) =
    any_append (same_entry z) pre low ∙ ap (λ b. any (same_entry z) pre || b) (any_map (same_entry z) (moved_scope lower) (λ x. refl) mid)
    ∙ sym (any_append (same_entry z) pre mid) in (
      subst (λ l. any (same_entry z) l ≡ false) (sym r.2) (g ∙ f),
      (
        mid ++ (z ∷ []),
        ap (λ l. l ++ (z ∷ [])) r.1 ∙ append_assoc pre (y ∷ mid) (z ∷ []),
        ap (λ l. l ++ (moved_scope lower z ∷ [])) r.2 ∙ append_assoc pre low (moved_scope lower z ∷ [])
            ∙ ap (λ l. pre ++ l) (sym (map-append (moved_scope lower) mid (z ∷ []))),
      ),
    )

-- where a record is found: its words end within, some entry passes the test, and without it the words are accepted
pub record Found (t : Scope → Bool) (W : List ℕ) (u : Snapshot) (q : ℕ) : Type 0 where
  pub kind : kind_of (get_or W q 0) ≡ 9
  pub passes : t (scope_at W q) ≡ true
  pub fits : q + scope_size ≤ length W
  pub there : any t u.scopes ≡ true
  pub after : verdict (cut q scope_size W) ≡ accept (with_scopes lower u (without t u.scopes))

module _ (t : Scope → Bool) (W : List ℕ) (u : Snapshot) (acc : verdict W ≡ accept u) (h : entry_place t W < length W) where
  p : Split W u (is_entry t W) (Absent t) 0 0 empty (entry_place t W)
  p = entry_split t W u acc

  here : (eqb (kind_of (get_or W (entry_place t W) 0)) 9 ≡ true) × (t (scope_at W (entry_place t W)) ≡ true)
  here = and_two (eqb (kind_of (get_or W (entry_place t W) 0)) 9) (t (scope_at W (entry_place t W))) (p.stopped h)

  kind_here : kind_of (get_or W (entry_place t W) 0) ≡ 9
  kind_here = eqb-true (kind_of (get_or W (entry_place t W) 0)) 9 here.0

  first : (m : ℕ) × (length W ≤ m + (entry_place t W + 1 + arguments_at W (entry_place t W))) × Next_record W m (entry_place t W) p.before p.state u
  first = first_record W p.fuel (entry_place t W) p.before p.state u h p.enough p.rest

  taken : Taking W (entry_place t W) p.before p.state first.2.state
  taken = taking W (entry_place t W) p.before p.state first.2.state first.2.step

  to : entry_place t W + 1 + arguments_at W (entry_place t W) ≡ entry_place t W + scope_size
  unfolding arguments_of
  to = let sized : arguments_at W (entry_place t W) ≡ scope_size - 1 = arguments_are W (entry_place t W) 9 kind_here in omega arith

  fits : entry_place t W + scope_size ≤ length W
  fits = subst (λ n. n ≤ length W) to (taking_within W (entry_place t W) p.before p.state first.2.state taken h)

  low : p.before ≤ 9
  low =
      subst (λ x. p.before ≤ x) kind_here
      (follows_rise p.before (kind_of (get_or W (entry_place t W) 0)) taken.order (λ a b. let k = kind_here in omega arith))

  -- after the record
  rest : records first.0 W (entry_place t W + scope_size) 9 (add_scope p.state (scope_at W (entry_place t W))) ≡ accept u
  rest =
      ap (λ x. records first.0 W (entry_place t W + scope_size) 9 x) (scope_added W (entry_place t W) p.before p.state
      first.2.state taken kind_here)
      ∙ ap (λ x. records first.0 W x 9 first.2.state) (sym to)
      ∙ ap (λ x. records first.0 W (entry_place t W + 1 + arguments_at W (entry_place t W)) x first.2.state) (sym kind_here)
      ∙ first.2.rest

  shorter : length (cut (entry_place t W) scope_size W) + scope_size ≡ length W
  shorter = cut_length W (entry_place t W) scope_size fits

  enough : length W ≤ first.0 + (entry_place t W + scope_size)
  enough = subst (λ n. length W ≤ first.0 + n) to first.1

  moved : (zs : List Scope) × Less p.state.scopes (scope_at W (entry_place t W)) u.scopes zs
      × (records first.0 (cut (entry_place t W) scope_size W) (entry_place t W) p.before p.state ≡ accept (with_scopes lower u zs))
  moved =
      let l = shorter in
      let r =
      run_moved W (cut (entry_place t W) scope_size W) lower (Less p.state.scopes (scope_at W (entry_place t W))) 9
      (less_kept p.state.scopes (scope_at W (entry_place t W))) (omega arith)
      first.0 (entry_place t W + scope_size) (entry_place t W) 9 p.before (add_scope p.state (scope_at W (entry_place t W))) u
      p.state.scopes (omega arith) low
      (cut_after W (entry_place t W) scope_size fits) (λ i. omega arith) (omega arith) enough ([], refl, sym (append-nil p.state.scopes)) rest in (
        r.0,
        r.1,
        ap (records first.0 (cut (entry_place t W) scope_size W) (entry_place t W) p.before)
            (sym (bare_moved lower p.state (p.holds.1 low) p.state.scopes)) ∙ r.2,
      )

  -- up to it
  up_to : (m : ℕ) × (length (cut (entry_place t W) scope_size W) ≤ m + entry_place t W)
      × (records (length (cut (entry_place t W) scope_size W)) (cut (entry_place t W) scope_size W) 0 0 empty
      ≡ records m (cut (entry_place t W) scope_size W) (entry_place t W) p.before p.state)
  up_to =
      let l = shorter in
      let f = fits in
      p.same (cut (entry_place t W) scope_size W) (cut_before W (entry_place t W) scope_size fits) (omega arith)
      (length (cut (entry_place t W) scope_size W)) (omega arith)

  less : Less p.state.scopes (scope_at W (entry_place t W)) u.scopes moved.0
  less = moved.1

  left : moved.0 ≡ without t u.scopes
  left =
      less.2 ∙ sym (without_middle t p.state.scopes (scope_at W (entry_place t W)) less.0 p.holds.0 here.1)
      ∙ ap (without t) (sym less.1)

  accepted : verdict (cut (entry_place t W) scope_size W) ≡ accept (with_scopes lower u (without t u.scopes))
  accepted =
      let l = shorter in
      let e = enough in
      let w = (verdict_records W u acc).0 in
      verdict_is (cut (entry_place t W) scope_size W) (omega arith)
      ∙ up_to.2
      ∙ records_more (cut (entry_place t W) scope_size W) up_to.0 first.0 (entry_place t W) p.before p.state up_to.1 (omega arith)
      ∙ moved.2
      ∙ ap (λ zs. accept (with_scopes lower u zs)) left

  pub present : Found t W u (entry_place t W)
  present =
      record {
        kind = kind_here;
        passes = here.1;
        fits = fits;
        there = subst (λ l. any t l ≡ true) (sym less.1) (any_middle t p.state.scopes (scope_at W (entry_place t W)) less.0 here.1);
        after = accepted;
      }
