-- After edits each report is that for words written afresh; an addition removed at once restores the words.
use Prim.Native.Nat.{ℕ, zero, suc, ◌+◌, ◌-◌, ◌≤◌}
use mathlib.Core.Path.{◌≡◌, refl, sym, ◌∙◌, ap}
use mathlib.Core.List.{List, [], ◌∷◌, ◌++◌}
use mathlib.Core.Bool.{true}
use native.Mathlib.Omega.{arith}
use lib.Dec.{ltb}
use lib.ListN.{length, take, length-append, length-replicate}
use lib.Seq.{length-take-le, take-append_seam}
use borrow.Author.Tests.{eq-eqb, ltb-false}
use Rattle.snapshot.specs.Limits.{area_limit}
use Rattle.snapshot.specs.Refusals.{area_refusal, words_refusal}
use Rattle.snapshot.specs.Sizes.{scope_size}
use Rattle.snapshot.specs.Records.{Snapshot, Scope}
use Rattle.check_rules.specs.Tests.{same_entry}
use Rattle.check_rules.specs.Verdict.{Verdict, refuse, accept, verdict}
use Rattle.accept.proofs.Accepted.{by_test}
use Rattle.find_path_spec.specs.declared.Query.{Query}
use Rattle.find_path_spec.specs.declared.Question.{Question}
use Rattle.find_path_spec.specs.Report.{call_fault, report_unless, report_of}
use Rattle.answer.specs.Answers.{zeros}
use Rattle.edit_rules.specs.Entries.{higher, placed, with_scopes, scopes_end}
use Rattle.edit_rules.specs.Edits.{Edit, refused_by, edited, Operation, adding, removing, edit_fault, edited_words, edit_unless, edit_by, edit_within}
use Rattle.edit_rules.specs.Edits.{edit_of, edited_snapshot}
use Rattle.edit_rules.proofs.scope_edits.Lists.{any_middle}
use Rattle.edit_rules.proofs.scope_edits.Edited.{edit_accepted, add_longer, add_room, add_removed}
use Rattle.edits.specs.Edits.{count_after, words_after}
use Rattle.edits.specs.Runs.{Held, own_words, after, edit_in, after_run, snapshot_by, snapshot_after}
use Rattle.edits.proofs.Laws.{fault_none, within_by, of_large}

-- an edit that was not refused

pub record Taken (area : ℕ) (W : List ℕ) (n : ℕ) (o : Operation) (T : List ℕ) : Type 0 where
  pub snapshot : Snapshot
  pub serves : area_limit ≤ area
  pub within : n ≤ length W
  pub accepted : verdict (take n W) ≡ accept snapshot
  pub fault : edit_fault snapshot (length (take n W)) (length W) o ≡ 0
  pub words : edited_words (take n W) o ≡ T

refused_not : {C : Type 0} {k : ℕ} {T : List ℕ} → refused_by k ≡ edited T → C
refused_not e = let z : ◌≡◌ {A = ℕ} 0 1 = cc in absurd (omega arith)

module _ (area : ℕ) (W : List ℕ) (n : ℕ) (o : Operation) (T : List ℕ) where
  unless_taken : area_limit ≤ area → n ≤ length W → (s : Snapshot) → verdict (take n W) ≡ accept s → (k : ℕ)
      → edit_fault s (length (take n W)) (length W) o ≡ k
      → edit_unless (take n W) o k ≡ edited T → Taken area W n o T
  unfolding edit_unless
  unless_taken h g s acc zero f e =
      let q : edited_words (take n W) o ≡ T = cc in
      record { snapshot = s; serves = h; within = g; accepted = acc; fault = f; words = q }
  unless_taken h g s acc (suc k) f e = refused_not e

  by_taken : area_limit ≤ area → n ≤ length W → (v : Verdict) → verdict (take n W) ≡ v → edit_by (take n W) (length W) o v ≡ edited T
      → Taken area W n o T
  unfolding edit_by
  by_taken h g (refuse k at) acc e = refused_not e
  by_taken h g (accept s) acc e = unless_taken h g s acc (edit_fault s (length (take n W)) (length W) o) refl e

  pub taken : edit_of area W n o ≡ edited T → Taken area W n o T
  unfolding edit_of edit_within
  taken e =
      by_test (ltb area area_limit)
      (λ c. let f : refused_by area_refusal ≡ edited T = rw (edit_of, c) at e in refused_not f)
      (λ c. by_test (ltb (length W) n)
      (λ d. let f : refused_by words_refusal ≡ edited T = rw (edit_of, c, edit_within, d) at e in refused_not f)
      (λ d. by_taken (ltb-false area area_limit c) (ltb-false (length W) n d) (verdict (take n W)) refl (rw (edit_of, c, edit_within, d) at e)))

-- an edit that passes its tests
taken_is : (area : ℕ) (W : List ℕ) (n : ℕ) (o : Operation) (s : Snapshot) → area_limit ≤ area → n ≤ length W → verdict (take n W) ≡ accept s
    → edit_fault s (length (take n W)) (length W) o ≡ 0 → edit_of area W n o ≡ edited (edited_words (take n W) o)
taken_is area W n o s h g acc f = of_large area W n o h ∙ within_by W n o g ∙ fault_none W n o s acc 0 (sym f) refl

pub accept_same : (s t : Snapshot) → accept s ≡ accept t → s ≡ t
accept_same s t e = cc

-- One edit: the new words are accepted as the edited snapshot, with the same lists but for the scopes and the places of the records after
-- the edited one.
pub edit_snapshot : (area : ℕ) (W : List ℕ) (n : ℕ) (o : Operation) (T : List ℕ) (s : Snapshot) → edit_of area W n o ≡ edited T
    → verdict (take n W) ≡ accept s
    → verdict T ≡ accept (edited_snapshot (take n W) s o)
edit_snapshot area W n o T s e acc =
    let t = taken area W n o T e in
    let q : t.snapshot ≡ s = accept_same t.snapshot s (sym t.accepted ∙ acc) in
    ap verdict (sym t.words) ∙ edit_accepted (take n W) t.snapshot (length W) o t.accepted t.fault
    ∙ ap (λ (x : Snapshot). accept (edited_snapshot (take n W) x o)) q

-- the snapshot's own words after an edit
own_edited : (h : Held) (T : List ℕ) → own_words (after h (edited T)) ≡ T
unfolding count_after words_after
own_edited h T = take-append_seam T (zeros (length h.words - length T))

after_one_lem : (area : ℕ) (h : Held) (o : Operation) (s : Snapshot) → verdict (own_words h) ≡ accept s → (e : Edit) → edit_in area h o ≡ e
    → verdict (own_words (after h e)) ≡ accept (snapshot_by h s o e)
unfolding count_after words_after snapshot_by
after_one_lem area h o s acc (refused_by k) e = acc
after_one_lem area h o s acc (edited T) e = ap verdict (own_edited h T) ∙ edit_snapshot area h.words h.count o T s e acc

-- Any run of edits: the words are accepted as the snapshot after it.
pub run_snapshot : (area : ℕ) (os : List Operation) (h : Held) (s : Snapshot) → verdict (own_words h) ≡ accept s
    → verdict (own_words (after_run area h os)) ≡ accept (snapshot_after area h s os)
unfolding after_run snapshot_after
run_snapshot area [] h s acc = acc
run_snapshot area (o ∷ os) h s acc =
    run_snapshot area os (after h (edit_in area h o)) (snapshot_by h s o (edit_in area h o)) (after_one_lem area h o s acc (edit_in area h o) refl)

-- words with the same verdict have the same reports
unless_same : (W F : List ℕ) (q : Query) (fuel n : ℕ) → verdict W ≡ verdict F → report_unless W q fuel n ≡ report_unless F q fuel n
unfolding report_unless
unless_same W F q fuel zero e = rw e
unless_same W F q fuel (suc n) e = refl

pub same_reports : (W F : List ℕ) (area : ℕ) (q : Question) → verdict W ≡ verdict F → report_of W area q ≡ report_of F area q
unfolding report_of
same_reports W F area q e = unless_same W F q.query q.fuel (call_fault area q.query q.fuel) e

-- After one edit, and after any run, each report is the one for any words F that are accepted as that very snapshot. Words that are written
-- afresh have their records at these places, since the sizes of records are the same.
pub edit_reports : (area : ℕ) (W : List ℕ) (n : ℕ) (o : Operation) (T : List ℕ) (s : Snapshot) → edit_of area W n o ≡ edited T
    → verdict (take n W) ≡ accept s
    → (F : List ℕ) → verdict F ≡ accept (edited_snapshot (take n W) s o) → (room : ℕ) (q : Question) → report_of T room q ≡ report_of F room q
edit_reports area W n o T s e acc F f room q = same_reports T F room q (edit_snapshot area W n o T s e acc ∙ sym f)

pub run_reports : (area : ℕ) (os : List Operation) (h : Held) (s : Snapshot) → verdict (own_words h) ≡ accept s
    → (F : List ℕ) → verdict F ≡ accept (snapshot_after area h s os) → (room : ℕ) (q : Question)
    → report_of (own_words (after_run area h os)) room q ≡ report_of F room q
run_reports area os h s acc F f room q = same_reports (own_words (after_run area h os)) F room q (run_snapshot area os h s acc ∙ sym f)

-- an addition and at once the removal of that name

removal_fault : (s : Snapshot) (at n slice : ℕ) (x : Scope) → same_entry x x ≡ true
    → edit_fault (with_scopes higher s (s.scopes ++ (placed at x ∷ []))) n slice (removing x.owner x.ns x.name) ≡ 0
unfolding edit_fault
removal_fault s at n slice x e = let f = any_middle (same_entry x) s.scopes (placed at x) [] e in rw (edit_fault, f)

entry_itself : (x : Scope) → same_entry x x ≡ true
entry_itself x = rw (eq-eqb x.owner x.owner refl, eq-eqb x.ns x.ns refl, eq-eqb x.name x.name refl)

module _ (area : ℕ) (W : List ℕ) (n : ℕ) (x : Scope) (T : List ℕ) (e : edit_of area W n (adding x) ≡ edited T) where
  t : Taken area W n (adding x) T
  t = taken area W n (adding x) T e

  own : length (take n W) ≡ n
  own = length-take-le n W t.within

  longer : length T ≡ length (take n W) + scope_size
  unfolding edited_words
  longer = ap length (sym t.words) ∙ add_longer (take n W) t.snapshot (length W) x t.accepted t.fault

  fits : length T ≤ length W
  fits = let a = add_room (take n W) t.snapshot (length W) x t.accepted t.fault in let l = longer in omega arith

  slice : length (T ++ zeros (length W - length T)) ≡ length W
  unfolding zeros
  slice = let f = fits in simp (length-append, length-replicate) (omega arith)

  grown : verdict T ≡ accept (with_scopes higher t.snapshot (t.snapshot.scopes ++ (placed (scopes_end (take n W)) x ∷ [])))
  unfolding edited_snapshot
  grown = edit_snapshot area W n (adding x) T t.snapshot e t.accepted

  seam : take (length T) (T ++ zeros (length W - length T)) ≡ T
  seam = take-append_seam T (zeros (length W - length T))

  again : edit_of area (T ++ zeros (length W - length T)) (length T) (removing x.owner x.ns x.name) ≡ edited (take n W)
  again =
      let f = fits in
      let l = slice in
      taken_is area (T ++ zeros (length W - length T)) (length T) (removing x.owner x.ns x.name)
      (with_scopes higher t.snapshot (t.snapshot.scopes ++ (placed (scopes_end (take n W)) x ∷ [])))
      t.serves (omega arith) (ap verdict seam ∙ grown)
      (removal_fault t.snapshot (scopes_end (take n W)) (length (take (length T) (T ++ zeros (length W - length T))))
      (length (T ++ zeros (length W - length T))) x (entry_itself x))
      ∙ ap (λ y. edited (edited_words y (removing x.owner x.ns x.name))) (seam ∙ sym t.words)
      ∙ ap edited (add_removed (take n W) t.snapshot (length W) x t.accepted t.fault)

  after_again : after (after (record { words = W; count = n }) (edited T)) (edited (take n W))
      ≡ record { words = take n W ++ zeros (length W - n); count = n }
  unfolding count_after words_after
  after_again =
      let a = slice in
      let o = own in
      let p : length (T ++ zeros (length W - length T)) - length (take n W) ≡ length W - n = omega arith in
      λ i. record { words = take n W ++ zeros (p i); count = o i }

  again_in : edit_in area (after (record { words = W; count = n }) (edited T)) (removing x.owner x.ns x.name) ≡ edited (take n W)
  unfolding count_after words_after
  again_in = again

  -- The snapshot's own words are those before the addition, and so is their count; the words past them are zero.
  pub restored : after_run area (record { words = W; count = n }) (adding x ∷ removing x.owner x.ns x.name ∷ [])
      ≡ record { words = take n W ++ zeros (length W - n); count = n }
  unfolding after_run
  restored =
      let o : Operation = removing x.owner x.ns x.name in
      ap (λ y. after (after (record { words = W; count = n }) y) (edit_in area (after (record { words = W; count = n }) y) o)) e
      ∙ ap (after (after (record { words = W; count = n }) (edited T))) again_in
      ∙ after_again
