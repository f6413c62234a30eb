-- What the entry points leave, by the definition of an edit.
use Prim.Native.Nat.{ℕ, zero, suc, ◌+◌, ◌-◌, ◌≤◌, ◌<◌}
use mathlib.Core.Path.{◌≡◌, refl, sym, ◌∙◌, ap, subst}
use mathlib.Core.List.{List, ◌++◌}
use mathlib.Core.Bool.{true, false}
use native.Mathlib.Omega.{arith}
use lib.ListN.{length, take, replicate}
use lib.Seq.{length-take-le}
use borrow.Author.Tests.{lt-ltb, le-ltb, ltb-true, ltb-false}
use lib.Dec.{ltb}
use Rattle.snapshot.specs.Records.{Snapshot, Scope}
use Rattle.snapshot.specs.declared.layout.Layout.{Layout}
use Rattle.snapshot.specs.Lists.{any}
use Rattle.snapshot.specs.Limits.{area_limit}
use Rattle.snapshot.specs.Refusals.{area_refusal, words_refusal, entry_refusal}
use Rattle.snapshot.specs.Sizes.{scope_size}
use Rattle.check_rules.specs.Verdict.{refuse, accept, verdict}
use Rattle.std.specs.Prelude.{Result, Ok, Err}
use Rattle.snapshot.specs.Refusals.{refusal_number}
use Rattle.snapshot.specs.declared.refusal.Refusal.{Refusal}
use Rattle.snapshot.specs.declared.refusal.Refusal.TheVariants.{Area, Words}
use Rattle.accept.specs.Post.{Checked, Checks, check_of}
use Rattle.accept.specs.declared.check.Refused.{Refused}
use Rattle.accept.proofs.Accepted.{by_test}
use Rattle.answer.specs.Answers.{zeros, area_after}
use Rattle.edit_rules.specs.Entries.{scope_words, is_named, scopes_end, entry_place, inserted, cut}
use Rattle.edit_rules.specs.Edits.{Edit, refused_by, edited, Operation, adding, removing, edit_fault, edited_words, edit_unless, edit_by, edit_within}
use Rattle.edit_rules.specs.Edits.{edit_of}
use Rattle.edit_rules.proofs.scope_edits.Lists.{cut_length}
use Rattle.edit_rules.proofs.scope_edits.Removed.{absent, present}
use Rattle.edit_rules.proofs.scope_edits.Inserted.{end_within}
use Rattle.edit_rules.proofs.scope_edits.Edited.{add_room, add_small, add_longer}
use Rattle.edits.specs.Edits.{number_in, count_after, words_after, Edits, EditsIn, Opens}
use Rattle.answer.specs.counts.Counts.{Counted}

-- a refusal
pub edits_not : (W : List ℕ) (n k : ℕ) (e : Edit) → e ≡ refused_by k → Edits W n e W (record { number = k; count = n })
unfolding number_in count_after words_after
edits_not W n k e q = subst (λ x. Edits W n x W (record { number = k; count = n })) (sym q) (record { number = refl; count = refl; words = refl })

-- words that were edited
pub edits_done : (W S X : List ℕ) (n m : ℕ) (e : Edit) → e ≡ edited S → m ≡ length S → X ≡ S ++ replicate (length W - m) 0
    → Edits W n e X (record { number = 0; count = m })
unfolding number_in count_after words_after zeros
edits_done W S X n m e q l x =
    subst (λ y. Edits W n y X (record { number = 0; count = m })) (sym q)
    (record { number = refl; count = l; words = x ∙ ap (λ k. S ++ replicate (length W - k) 0) l })

-- the edit of an accepted snapshot
module _ (W : List ℕ) (n : ℕ) (o : Operation) (s : Snapshot) (acc : verdict (take n W) ≡ accept s) where
  pub by_fault : edit_by (take n W) (length W) o (verdict (take n W)) ≡ edit_unless (take n W) o (edit_fault s (length (take n W)) (length W) o)
  unfolding edit_by
  by_fault = ap (edit_by (take n W) (length W) o) acc

  pub fault_not : (k : ℕ) → k ≡ edit_fault s (length (take n W)) (length W) o → (k ≡ 0 → ⊥)
      → edit_by (take n W) (length W) o (verdict (take n W)) ≡ refused_by k
  unfolding edit_unless
  fault_not zero e h = absurd (h refl)
  fault_not (suc k) e h = by_fault ∙ ap (edit_unless (take n W) o) (sym e)

  pub fault_none : (k : ℕ) → k ≡ edit_fault s (length (take n W)) (length W) o → k ≡ 0
      → edit_by (take n W) (length W) o (verdict (take n W)) ≡ edited (edited_words (take n W) o)
  unfolding edit_unless
  fault_none k e h = by_fault ∙ ap (edit_unless (take n W) o) (sym e ∙ h)

-- the check before it
pub within_not : (W : List ℕ) (n : ℕ) (o : Operation) → length W < n → edit_within W n o ≡ refused_by words_refusal
unfolding edit_within
within_not W n o h = rw (edit_within, lt-ltb _ _ h)

pub within_by : (W : List ℕ) (n : ℕ) (o : Operation) → n ≤ length W → edit_within W n o ≡ edit_by (take n W) (length W) o (verdict (take n W))
unfolding edit_within
within_by W n o h = rw (edit_within, le-ltb _ _ h)

pub by_refusal : (W : List ℕ) (n : ℕ) (o : Operation) (k at : ℕ) → refuse k at ≡ verdict (take n W)
    → edit_by (take n W) (length W) o (verdict (take n W)) ≡ refused_by k
unfolding edit_by
by_refusal W n o k at e = ap (edit_by (take n W) (length W) o) (sym e)

-- the work area
pub of_small : (area : ℕ) (W : List ℕ) (n : ℕ) (o : Operation) → area < area_limit → edit_of area W n o ≡ refused_by area_refusal
unfolding edit_of
of_small area W n o h = rw (edit_of, lt-ltb _ _ h)

pub of_large : (area : ℕ) (W : List ℕ) (n : ℕ) (o : Operation) → area_limit ≤ area → edit_of area W n o ≡ edit_within W n o
unfolding edit_of
of_large area W n o h = rw (edit_of, le-ltb _ _ h)

-- the check's answer, without the place
abbrev pub placeless : Checked → Result Layout Refusal
placeless (Err e) = Err e.why
placeless (Ok l) = Ok l

-- the check before an edit, in a work area that serves

module _ (W : List ℕ) (n : ℕ) where
  pub opens_short : length W < n → Opens W n area_limit (Err Words)
  opens_short g o = of_large area_limit W n o (omega arith) ∙ within_not W n o g

  module _ (A₀ A : List ℕ) (h : area_limit ≤ length A₀) (g : n ≤ length W) where
    serving : check_of (length A₀) (take n W) ≡ verdict (take n W)
    unfolding check_of
    serving = rw (check_of, le-ltb (length A₀) area_limit h)

    opens_refused : (e : Refused) → Checks (take n W) A₀ A (Err e) → Opens W n (length A₀) (Err e.why)
    opens_refused e p =
        λ o. of_large (length A₀) W n o h ∙ within_by W n o g ∙ by_refusal W n o (refusal_number e.why) e.at (p.same ∙ serving)

    opens_accepted : (l : Layout) → Checks (take n W) A₀ A (Ok l) → Opens W n (length A₀) (Ok l)
    opens_accepted l p = (h, (g, (A, record { same = sym (p.same ∙ serving); tables = p.tables })))

    pub opens_checked : (c : Checked) → Checks (take n W) A₀ A c → Opens W n (length A₀) (placeless c)
    opens_checked (Err e) p = opens_refused e p
    opens_checked (Ok l) p = opens_accepted l p

    -- of an area that is as long as it must be
    pub opens_front : length A₀ ≡ area_limit → (c : Checked) → Checks (take n W) A₀ A c → Opens W n area_limit (placeless c)
    opens_front z c p = subst (λ k. Opens W n k (placeless c)) z (opens_checked c p)

  -- in any work area

  opens_small : (area : ℕ) → area < area_limit → Opens W n area (Err Area)
  opens_small area h o = of_small area W n o h

  opens_large : (area : ℕ) → area_limit ≤ area → (r : Result Layout Refusal) → Opens W n area_limit r → Opens W n area r
  opens_large area h (Err k) p = λ o. of_large area W n o h ∙ sym (of_large area_limit W n o (omega arith)) ∙ p o
  opens_large area h (Ok l) p = (h, p.1)

  pub opens_by : (area : ℕ) (r : Result Layout Refusal) → (area < area_limit → r ≡ Err Area) → (area_limit ≤ area → Opens W n area_limit r)
      → Opens W n area r
  opens_by area r f g =
      by_test (ltb area area_limit)
      (λ t. let h = ltb-true _ _ t in subst (Opens W n area) (sym (f h)) (opens_small area h))
      (λ t. let h = ltb-false _ _ t in opens_large area h r (g h))

module _ (W A₀ : List ℕ) (n : ℕ) (A : List ℕ) (a : A ≡ area_after A₀) (o : Operation) where
  pub edit_not : (k : Refusal) → Opens W n (length A₀) (Err k) → EditsIn W n A₀ o W A (record { number = refusal_number k; count = n })
  edit_not k p = record { edit = edits_not W n (refusal_number k) _ (p o); area = a }

  pub edit_done : (l : Layout) → Opens W n (length A₀) (Ok l) → (X : List ℕ) (r : Counted)
      → Edits W n (edit_by (take n W) (length W) o (verdict (take n W))) X r → EditsIn W n A₀ o X A r
  edit_done l q X r d = record { edit = subst (λ y. Edits W n y X r) (sym (of_large (length A₀) W n o q.0 ∙ within_by W n o q.1.0)) d; area = a }

pub record_long : (x : Scope) (R : List ℕ) → R ≡ scope_words x → length R ≡ scope_size
unfolding scope_words
record_long x R e = ap length e

-- an addition to accepted words
module _ (W : List ℕ) (n : ℕ) (h : n ≤ length W) (s : Snapshot) (acc : verdict (take n W) ≡ accept s) (x : Scope) (k : ℕ)
    (e : k ≡ edit_fault s (length (take n W)) (length W) (adding x))
  where
    pub added_not : (k ≡ 0 → ⊥) → Edits W n (edit_by (take n W) (length W) (adding x) (verdict (take n W))) W (record { number = k; count = n })
    added_not z = edits_not W n k _ (fault_not W n (adding x) s acc k e z)

    pub added_head : k ≡ 0 → x.owner < 268435456
    added_head z = (add_small (take n W) s (length W) x acc (sym e ∙ z)).owner

    pub added_fits : k ≡ 0 → (at : ℕ) → at ≡ scopes_end (take n W) → (at ≤ n) × (n + scope_size ≤ length W)
    added_fits z at p =
        let l = length-take-le n W h in
        let w = end_within (take n W) s acc in
        let r = add_room (take n W) s (length W) x acc (sym e ∙ z) in
        (omega arith, omega arith)

    pub added_done : (X : List ℕ) (at : ℕ) → k ≡ 0 → at ≡ scopes_end (take n W)
        → X ≡ inserted at (scope_words x) (take n W) ++ replicate (length W - (n + scope_size)) 0
        → Edits W n (edit_by (take n W) (length W) (adding x) (verdict (take n W))) X (record { number = 0; count = n + scope_size })
    unfolding edited_words
    added_done X at z p q =
        edits_done W (inserted (scopes_end (take n W)) (scope_words x) (take n W)) X n (n + scope_size) _ (fault_none W n (adding x) s acc k e z)
        (sym (add_longer (take n W) s (length W) x acc (sym e ∙ z) ∙ ap (λ m. m + scope_size) (length-take-le n W h)))
        (q ∙ ap (λ p. inserted p (scope_words x) (take n W) ++ replicate (length W - (n + scope_size)) 0) p)

-- a removal from accepted words
module _ (W : List ℕ) (n : ℕ) (h : n ≤ length W) (s : Snapshot) (acc : verdict (take n W) ≡ accept s) (m ns name : ℕ) (at : ℕ)
    (e : at ≡ entry_place (is_named m ns name) (take n W))
  where
    long : length (take n W) ≡ n
    long = length-take-le n W h

    absent_fault : any (is_named m ns name) s.scopes ≡ false → entry_refusal ≡ edit_fault s (length (take n W)) (length W) (removing m ns name)
    unfolding edit_fault
    absent_fault q = rw (edit_fault, q)

    present_fault : any (is_named m ns name) s.scopes ≡ true → 0 ≡ edit_fault s (length (take n W)) (length W) (removing m ns name)
    unfolding edit_fault
    present_fault q = rw (edit_fault, q)

    pub removed_not : n ≤ at → Edits W n (edit_by (take n W) (length W) (removing m ns name) (verdict (take n W))) W
        (record { number = entry_refusal; count = n })
    removed_not g =
        let l = long in
        edits_not W n entry_refusal _ (fault_not W n (removing m ns name) s acc entry_refusal
        (absent_fault (absent (is_named m ns name) (take n W) s acc (omega arith))) (λ z. omega arith))

    found : at < n → entry_place (is_named m ns name) (take n W) < length (take n W)
    found g = let l = long in omega arith

    pub removed_fits : at < n → at + scope_size ≤ n
    removed_fits g = let f = (present (is_named m ns name) (take n W) s acc (found g)).fits in let l = long in omega arith

    pub removed_done : (X : List ℕ) → at < n → X ≡ cut at scope_size (take n W) ++ replicate (length W - (n - scope_size)) 0
        → Edits W n (edit_by (take n W) (length W) (removing m ns name) (verdict (take n W))) X (record { number = 0; count = n - scope_size })
    unfolding edited_words
    removed_done X g q =
        let f = present (is_named m ns name) (take n W) s acc (found g) in
        let l = long in
        let c = cut_length (take n W) (entry_place (is_named m ns name) (take n W)) scope_size f.fits in
        edits_done W (cut (entry_place (is_named m ns name) (take n W)) scope_size (take n W)) X n (n - scope_size) _
        (fault_none W n (removing m ns name) s acc 0 (present_fault f.there) refl)
        (omega arith)
        (q ∙ ap (λ p. cut p scope_size (take n W) ++ replicate (length W - (n - scope_size)) 0) e)
